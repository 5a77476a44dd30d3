pub mod Cases
pub mod Good
pub mod Memory
pub mod Counts
pub mod ErrorTexts
pub mod Examples
