pub mod Shown
pub mod Shows
pub mod Tasking
pub mod Frames
