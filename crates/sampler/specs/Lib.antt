pub mod Refusals
pub mod Samplers
pub mod Soundness
