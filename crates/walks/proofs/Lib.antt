pub mod Loops
pub mod Every
