pub mod Passing
pub mod Choosing
pub mod Valued
pub mod Rolls
