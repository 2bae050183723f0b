mod Asked
mod Formed
mod Grids
mod Returned
pub mod Sharing
