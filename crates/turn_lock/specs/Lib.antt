pub mod Entries
pub mod Lock
pub mod Notes
pub mod Rule
pub mod Seen
pub mod Told
