pub mod Behind
pub mod Items
pub mod Parts
pub mod Reads
