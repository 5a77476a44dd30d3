pub mod Leaves
pub mod Wholes
pub mod Roots
