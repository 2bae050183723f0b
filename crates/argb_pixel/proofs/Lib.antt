pub mod Rounded
pub mod Rows
pub mod Channels
pub mod Bytes
pub mod Parts
pub mod Places
pub mod Filled
