pub mod Cells
pub mod Frames
pub mod Kept
pub mod Steps
