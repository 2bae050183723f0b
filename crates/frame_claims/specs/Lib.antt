pub mod Claims
pub mod Rule
pub mod Seen
pub mod Told
