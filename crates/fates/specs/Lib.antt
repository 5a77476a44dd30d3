pub mod Engine
pub mod Events
pub mod Places
pub mod Sounding
pub mod Steady
