pub mod Alternatives
pub mod Gives
pub mod Heads
pub mod Items
pub mod Parts
