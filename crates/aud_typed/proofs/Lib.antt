pub mod Chains
pub mod Opened
