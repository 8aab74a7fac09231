pub mod DotLemmas
pub mod StripLemmas
pub mod ColumnLemmas
mod ConstantRows
