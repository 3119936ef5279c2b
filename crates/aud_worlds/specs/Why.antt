pub mod Laws
pub mod Rows
pub mod Runs
