pub mod Backings
pub mod Streams
