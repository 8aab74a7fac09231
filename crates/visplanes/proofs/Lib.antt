pub mod ColumnLemmas
pub mod ListLemmas
pub mod RecentLemmas
pub mod RunLemmas
pub mod RowLemmas
pub mod DotLemmas
pub mod DrawLemmas
pub mod FlatLemmas
pub mod FloorLemmas
mod ConstantRows
