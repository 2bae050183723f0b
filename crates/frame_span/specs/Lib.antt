pub mod Effects
pub mod Forms
pub mod Lines
pub mod Rendered
pub mod Sums
pub mod Written
