pub mod Places
pub mod Right
pub mod Said
