pub mod Drawn
pub mod Answered
pub mod Runs
