pub mod Cache
pub mod Kept
pub mod Ledger
pub mod Seen
pub mod Slots
