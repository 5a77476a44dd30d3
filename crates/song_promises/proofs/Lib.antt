pub mod Songs
pub mod Heard
pub mod Examples
