pub mod Changes
pub mod Goodness
pub mod Ends
pub mod Numbers
