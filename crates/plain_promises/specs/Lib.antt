pub mod Backed
pub mod Members
pub mod Plain
