pub mod Held
pub mod Listed
pub mod Seen
pub mod Shown
