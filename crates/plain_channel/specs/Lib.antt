pub mod Sides
pub mod Ahead
