pub mod Items
pub mod Makes
