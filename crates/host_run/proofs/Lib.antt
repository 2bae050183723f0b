pub mod Answered
pub mod Ended
pub mod Exit
pub mod Known
pub mod Lengths
pub mod Loaded
