pub mod Distinct
pub mod Evicting
pub mod Firsts
pub mod Names
pub mod Runs
pub mod Serials
pub mod Touching
