pub mod Beside
pub mod Turns
pub mod Flanked
pub mod Togos
pub mod Streams
