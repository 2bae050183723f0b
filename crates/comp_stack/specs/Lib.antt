pub mod Stack
pub mod Layers
pub mod Spans
pub mod Laws
