pub mod Seen
pub mod Besides
pub mod Turns
pub mod Gliding
