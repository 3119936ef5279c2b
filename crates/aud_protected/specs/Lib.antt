pub mod Counting
pub mod Eligible
