pub mod Places
pub mod Rows
pub mod Spans
pub mod KeptLemmas
pub mod Points
pub mod Together
