pub mod Overs
pub mod Places
pub mod Passes
pub mod Fitting
pub mod Looks
