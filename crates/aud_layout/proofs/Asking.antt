pub mod Evals
pub mod Lists
pub mod Statements
pub mod Delays
pub mod Steps
