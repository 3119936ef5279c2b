pub mod Over
pub mod Looks
pub mod Law
pub mod Standing
