pub mod Bases
pub mod Measures
pub mod Multiples
pub mod Numbers
