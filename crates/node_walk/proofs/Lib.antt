pub mod DepthLemmas
pub mod FragmentLemmas
pub mod GapLemmas
pub mod ListLemmas
pub mod PartLemmas
pub mod RangeLemmas
pub mod VisitLemmas
mod ConstantRows
