pub mod Bare
pub mod Laws
pub mod Printed
pub mod Shorthand
