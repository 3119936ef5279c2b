pub mod Leaving
pub mod Marks
