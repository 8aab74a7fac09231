pub mod AnyBytesLemmas
pub mod ColumnLemmas
pub mod CompositeLemmas
pub mod JoinedLemmas
pub mod PlaceLemmas
pub mod PutLemmas
pub mod RowLemmas
pub mod SeenLemmas
