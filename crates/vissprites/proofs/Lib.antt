pub mod KeptLemmas
pub mod EntryLemmas
pub mod BoundLemmas
mod ConstantRows
