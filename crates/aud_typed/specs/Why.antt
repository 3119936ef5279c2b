pub mod Numbers
pub mod Scoped
