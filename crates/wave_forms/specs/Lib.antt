pub mod Values
pub mod Reader
pub mod Grammar
pub mod Turns
pub mod Promised
