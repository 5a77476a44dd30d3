pub mod Packing
pub mod Indices
pub mod Limits
pub mod LoopLengths
pub mod Worked
pub mod Examples
