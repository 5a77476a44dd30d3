pub mod Endings
pub mod Passes
pub mod Goings
