pub mod Sharing
pub mod Wholes
