pub mod Fed
pub mod Bytes
pub mod Turned
