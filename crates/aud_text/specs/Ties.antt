pub mod Adds
pub mod Place
