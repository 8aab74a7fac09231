pub mod WallLemmas
pub mod EdgeLemmas
pub mod NoteLemmas
pub mod PaintLemmas
