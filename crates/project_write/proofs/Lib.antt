pub mod NameLemmas
pub mod ListLemmas
pub mod PartLemmas
pub mod ObjectLemmas
pub mod EffectLemmas
pub mod LayerLemmas
pub mod CompLemmas
pub mod ProjectLemmas
