pub mod Added
pub mod Filling
pub mod Placing
pub mod Plays
pub mod Straight
pub mod Turns
pub mod Easing
pub mod Promised
