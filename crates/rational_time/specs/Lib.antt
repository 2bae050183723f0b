pub mod Measure
pub mod Times
