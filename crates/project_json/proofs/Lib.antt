pub mod PartLemmas
pub mod PlaceLemmas
pub mod OrderLemmas
pub mod FormedLemmas
pub mod ReadLemmas
pub mod WorkedLemmas
pub mod LawLemmas
