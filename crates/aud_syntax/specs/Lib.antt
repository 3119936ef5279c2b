pub mod Plain
pub mod Ties
pub mod Why
