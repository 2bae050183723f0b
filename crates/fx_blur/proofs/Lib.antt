pub mod Each
pub mod Moving
pub mod Adding
pub mod Drawn
pub mod BlockMeans
pub mod Quotient
