pub mod Areas
pub mod Drawn
pub mod Kept
pub mod Layers
pub mod Levels
pub mod Planned
pub mod Uses
