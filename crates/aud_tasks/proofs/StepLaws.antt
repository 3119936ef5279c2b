pub mod Asked
pub mod Entering
pub mod Going
pub mod Leaving
pub mod LeftAlone
pub mod Stepping
pub mod Turning
