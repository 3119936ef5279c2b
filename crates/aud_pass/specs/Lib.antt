pub mod Passed
pub mod Replies
pub mod Faults
pub mod Sections
