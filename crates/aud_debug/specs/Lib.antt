pub mod Listed
pub mod Ties
