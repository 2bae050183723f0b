pub mod Bounds
pub mod Rules
pub mod Over
pub mod Eights
pub mod Mixing
pub mod Pairs
pub mod Rows
pub mod Covered
