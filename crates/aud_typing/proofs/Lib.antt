pub mod Notes
pub mod Opened
pub mod Chains
