pub mod Stack
pub mod Part
pub mod Named
