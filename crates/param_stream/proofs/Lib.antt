pub mod Causes
pub mod Kept
pub mod Rising
pub mod Shares
pub mod Values
