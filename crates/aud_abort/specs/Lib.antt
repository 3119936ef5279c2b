pub mod Aborting
pub mod Deferring
