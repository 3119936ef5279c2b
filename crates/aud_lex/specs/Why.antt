pub mod Cut
pub mod Laws
pub mod Manual
pub mod Spaced
