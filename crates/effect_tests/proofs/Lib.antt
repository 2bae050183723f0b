pub mod Constants
pub mod Cropping
pub mod AtFirst
