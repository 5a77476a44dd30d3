pub mod Recording
pub mod ErrorText
