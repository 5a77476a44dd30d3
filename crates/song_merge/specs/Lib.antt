pub mod Songs
pub mod Merges
pub mod Written
pub mod Standing
pub mod Headings
pub mod Gathers
pub mod Answers
pub mod Heard
