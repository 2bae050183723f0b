pub mod Sums
pub mod Formulas
pub mod Analysis
pub mod Counts
pub mod Laws
