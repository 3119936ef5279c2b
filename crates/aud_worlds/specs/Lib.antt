pub mod World
pub mod Session
pub mod Mine
pub mod Headline
pub mod Taken
pub mod Ties
pub mod Why
