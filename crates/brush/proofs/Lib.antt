pub mod FloorLemmas
pub mod LayerLemmas
pub mod LendLemmas
pub mod PictureLemmas
pub mod MiddleLemmas
pub mod PostLemmas
pub mod WorkLemmas
