pub mod Gives
