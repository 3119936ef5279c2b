mod Bridges
mod Counted
mod Framed
mod Missed
pub mod Tasking
mod Views
pub mod Sent
