pub mod Coupling
