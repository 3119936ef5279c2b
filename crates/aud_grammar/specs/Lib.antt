pub mod Grammar
pub mod Values
pub mod First
pub mod Actions
pub mod Parsed
pub mod Ties
pub mod Why
