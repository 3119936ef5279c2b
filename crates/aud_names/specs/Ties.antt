pub mod Hidden
pub mod Regions
pub mod Table
