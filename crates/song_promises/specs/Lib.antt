pub mod Songs
pub mod Heard
