pub mod Lines
pub mod Requests
pub mod Text
pub mod Ties
