pub mod Asked
pub mod Begun
pub mod Pieces
pub mod Splits
