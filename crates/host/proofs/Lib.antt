pub mod Codes
pub mod Examples
