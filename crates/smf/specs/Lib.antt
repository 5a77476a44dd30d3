pub mod Faults
pub mod Fields
pub mod Events
pub mod Files
pub mod Times
pub mod Cues
pub mod Promised
