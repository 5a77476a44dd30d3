pub mod Lent
pub mod Backed
