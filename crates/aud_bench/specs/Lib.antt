pub mod Listings
pub mod Size
pub mod Loading
pub mod Alone
pub mod Seen
pub mod Same
pub mod Why
pub mod Ties
