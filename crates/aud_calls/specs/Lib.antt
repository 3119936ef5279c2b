pub mod Cancelling
pub mod Queues
pub mod View
