pub mod First
pub mod Firsts
pub mod FurtherOut
pub mod Hiding
pub mod Waiting
