pub mod Extents
pub mod Pages
pub mod Rows
pub mod Watched
