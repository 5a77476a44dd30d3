pub mod Outputs
pub mod Frames
pub mod Printed
pub mod Examples
pub mod Faultless
pub mod Versions
