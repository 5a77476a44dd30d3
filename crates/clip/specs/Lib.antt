pub mod Positions
pub mod Updates
pub mod Refusals
pub mod Bounds
pub mod Plain
pub mod Quick
