pub mod Cause
pub mod Core
pub mod History
pub mod Holds
pub mod Laws
pub mod Rows
