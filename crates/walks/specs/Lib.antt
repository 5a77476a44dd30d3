pub mod Walks
pub mod Each
