pub mod Formulas
pub mod Color
pub mod Parts
pub mod Laws
