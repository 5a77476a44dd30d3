pub mod Changes
pub mod Lists
pub mod Surveys
pub mod Gathers
pub mod Turned
pub mod RunTurns
pub mod RunTurned
pub mod Singles
