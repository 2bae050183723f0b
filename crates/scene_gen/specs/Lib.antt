pub mod Draws
pub mod Generated
pub mod Kinds
pub mod Laws
pub mod Layers
pub mod Streams
