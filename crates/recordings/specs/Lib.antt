pub mod Waves
pub mod Sights
