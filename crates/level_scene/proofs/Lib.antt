pub mod AddLemmas
pub mod EachLemmas
pub mod GroupLemmas
pub mod LeafLemmas
pub mod LevelLemmas
pub mod LumpLemmas
pub mod PlacedLemmas
pub mod ShadowLemmas
