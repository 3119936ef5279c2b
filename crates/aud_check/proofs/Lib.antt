mod Rows
pub mod Judged
pub mod Declaring
