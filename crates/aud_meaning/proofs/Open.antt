pub mod Tasks
pub mod Kept
pub mod Queues
pub mod Picked
pub mod Offered
pub mod Steps
