pub mod Quantities
pub mod Inside
pub mod Searches
pub mod Frames
pub mod Turns
pub mod Answers
pub mod Examples
pub mod Promised
