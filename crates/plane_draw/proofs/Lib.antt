pub mod CanLemmas
pub mod DotLemmas
pub mod DrawLemmas
pub mod MarkLemmas
pub mod StripLemmas
