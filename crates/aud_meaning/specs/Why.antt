pub mod Agree
pub mod Laws
pub mod Carried
pub mod Alone
pub mod Stuck
pub mod Limits
pub mod Open
