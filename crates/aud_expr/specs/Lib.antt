pub mod AtHand
pub mod Operands
pub mod Flow
pub mod Ticks
pub mod Size
pub mod Found
pub mod Fused
