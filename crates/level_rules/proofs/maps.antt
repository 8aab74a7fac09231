pub mod FirstLemmas
pub mod VisitLemmas
pub mod TreeLemmas
pub mod RangeLemmas
pub mod JoinLemmas
pub mod SoundLemmas
pub mod LevelLemmas
