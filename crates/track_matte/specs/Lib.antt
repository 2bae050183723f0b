pub mod Mattes
pub mod Names
pub mod Laws
