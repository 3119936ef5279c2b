pub mod Bound
pub mod Withdrawals
