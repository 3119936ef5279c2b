pub mod Answered
pub mod Kept
pub mod Loads
pub mod Sameness
pub mod Serving
pub mod Standing
pub mod Times
