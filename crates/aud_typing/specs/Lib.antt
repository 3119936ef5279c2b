pub mod Expressions
pub mod Conditions
pub mod Ties
