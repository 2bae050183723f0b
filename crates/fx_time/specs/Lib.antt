pub mod Ticks
pub mod Formulas
pub mod Time
pub mod Worlds
pub mod Asked
pub mod Laws
pub mod Worked
