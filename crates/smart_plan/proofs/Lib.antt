pub mod Trimming
pub mod Holding
pub mod Sufficing
