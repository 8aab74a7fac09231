pub mod ShapeLemmas
pub mod ColumnLemmas
pub mod SoundLemmas
pub mod RangeLemmas
pub use Rattle.word_rules.proofs.Common
mod ConstantRows
