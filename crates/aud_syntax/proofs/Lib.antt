pub mod Opened
pub mod Written
pub mod Placeless
pub mod Refused
