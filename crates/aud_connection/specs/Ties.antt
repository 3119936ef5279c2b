pub mod Following
pub mod Visits
pub mod Words
