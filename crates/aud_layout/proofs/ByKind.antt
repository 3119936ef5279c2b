pub mod Declaring
pub mod Idling
pub mod Assigning
pub mod Putting
