pub mod Shown
pub mod Steps
pub mod Parked
pub mod Next
pub mod Standing
pub mod Fast
pub mod Ahead
pub mod Beside
