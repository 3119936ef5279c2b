pub mod Completing
pub mod Rolls
pub mod Objects
pub mod Heading
pub mod Selects
pub mod Alternating
pub mod Listed
