pub mod Phrases
pub mod Gathering
