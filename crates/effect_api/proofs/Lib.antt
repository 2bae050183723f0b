pub mod Checking
pub mod Params
pub mod Requested
