pub mod RecordLemmas
pub mod RowLemmas
pub mod RowSentences
pub mod ThingLemmas
pub mod TableLemmas
mod ConstantRows
