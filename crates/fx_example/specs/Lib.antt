pub mod Fade
pub mod Laws
