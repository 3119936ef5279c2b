pub mod Tree
pub mod Ties
pub mod Why
