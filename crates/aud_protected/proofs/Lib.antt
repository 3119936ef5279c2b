pub mod Costing
pub mod GoingOn
pub mod Picking
