pub mod Sums
pub mod Blur
pub mod Mosaic
pub mod Columns
pub mod SumLaws
pub mod Blocks
pub mod Laws
