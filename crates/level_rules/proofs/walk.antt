pub mod RunLemmas
pub mod CoverLemmas
pub mod WalkLemmas
pub mod DrawsegLemmas
