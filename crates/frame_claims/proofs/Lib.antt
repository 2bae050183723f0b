pub mod Claiming
pub mod Crossing
pub mod Drawing
pub mod Joining
pub mod Kept
pub mod Lists
pub mod Numbers
pub mod Seats
