pub mod Both
pub mod Transfer
pub mod Names
pub mod Laws
pub mod Lanes
