pub mod Hearing
pub mod Lists
pub mod Runs
