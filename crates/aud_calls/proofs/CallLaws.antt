pub mod Changed
pub mod Found
pub mod GivenBack
pub mod InLine
pub mod Lines
pub mod Queueing
