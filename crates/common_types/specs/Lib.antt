pub mod Notes
pub mod Modes
pub mod Times
pub mod Settings
