pub mod Heads
pub mod Tables
pub mod Channels
pub mod Soundness
