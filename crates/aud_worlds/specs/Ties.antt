pub mod Calls
pub mod Runs
pub mod Worlds
