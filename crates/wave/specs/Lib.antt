pub mod Fields
pub mod Files
pub mod Reader
pub mod Grammar
pub mod Memory
pub mod Promised
