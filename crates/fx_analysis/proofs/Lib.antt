pub mod Counting
pub mod Found
pub mod Tables
pub mod Given
