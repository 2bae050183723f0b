pub mod Crossing
pub mod Frames
pub mod Known
pub mod Pixels
