pub mod Afr
pub mod Clip
pub mod Load
pub mod Laws
