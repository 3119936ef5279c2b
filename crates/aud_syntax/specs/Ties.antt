pub mod Heads
pub mod View
pub mod Writes
