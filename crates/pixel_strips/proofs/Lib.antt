pub mod CanvasLemmas
pub mod SoFarLemmas
pub mod CutLemmas
pub mod FillLemmas
pub mod DottedLemmas
pub mod RowLemmas
pub mod PlaceLemmas
mod ConstantRows
