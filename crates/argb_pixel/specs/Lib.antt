pub mod Depth
pub mod Pixel
pub mod Laws
pub mod Packed
