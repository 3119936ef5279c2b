pub mod Ended
pub mod Serving
pub mod Solo
pub mod Streams
pub mod Ties
