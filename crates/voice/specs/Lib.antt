pub mod Voices
pub mod Soundness
pub mod Agreeing
pub mod Gliding
