pub mod Questions
pub mod Sights
pub mod Waveforms
pub mod Lists
