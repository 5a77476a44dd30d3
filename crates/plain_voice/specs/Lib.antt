pub mod Hots
pub mod Exactly
