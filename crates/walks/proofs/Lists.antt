-- Laws of lists and of loops over them, over any element type.
pub mod Each
pub mod Every
pub mod Fronts
pub mod Looks
pub mod Loops
pub mod Runs
pub mod Stored
