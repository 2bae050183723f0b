pub mod Computations
pub mod Passes
