pub mod Plan
pub mod Requests
pub mod Suffices
pub mod Held
