pub mod Curve
pub mod Laws
pub mod Refusals
pub mod Share
pub mod Streams
