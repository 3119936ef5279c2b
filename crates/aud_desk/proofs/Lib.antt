pub mod Shared
pub mod Working
pub mod Opening
