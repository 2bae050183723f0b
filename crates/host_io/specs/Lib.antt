pub mod Cause
pub mod Fakes
pub mod Status
pub mod Clips
