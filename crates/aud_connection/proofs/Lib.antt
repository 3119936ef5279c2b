pub mod Following
pub mod Fronts
pub mod Greeted
pub mod Texts
pub mod Visits
