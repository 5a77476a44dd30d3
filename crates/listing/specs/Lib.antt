pub mod Records
pub mod Lines
pub mod Steps
pub mod Whole
pub mod Faults
pub mod Versions
