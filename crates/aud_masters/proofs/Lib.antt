pub mod Beginning
pub mod Leaving
