pub mod Pours
pub mod Eases
pub mod Steady
