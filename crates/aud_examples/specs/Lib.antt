pub mod Sessions
pub mod Asking
pub mod Programs
pub mod Worked
pub mod Watched
