pub mod Spans
pub mod Summed
pub mod Answered
pub mod Shares
