pub mod Asking
pub mod ByKind
pub mod Standing
pub mod Flat
pub mod Stubs
