pub mod Grammar
pub mod First
pub mod Judged
