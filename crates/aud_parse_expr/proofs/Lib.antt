pub mod Joined
pub mod Rolls
