pub mod Dues
pub mod Hands
