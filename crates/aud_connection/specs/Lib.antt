pub mod Greeting
pub mod Told
pub mod Served
pub mod Ties
