pub mod Names
pub mod Rules
pub mod Arrays
pub mod Objects
pub mod Resolution
pub mod Ties
