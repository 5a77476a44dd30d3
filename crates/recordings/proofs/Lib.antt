pub mod Element
pub mod Parts
pub mod Numbers
pub mod Sights
pub mod Examples
