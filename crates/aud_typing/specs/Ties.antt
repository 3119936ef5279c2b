pub mod Entities
pub mod Typing
