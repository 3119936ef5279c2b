pub mod Checked
pub mod Ties
