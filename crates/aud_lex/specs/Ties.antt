pub mod Gives
pub mod Reading
pub mod Table
