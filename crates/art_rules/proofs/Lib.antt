pub mod PostLemmas
pub mod MaskLemmas
pub mod LookupLemmas
pub mod EachLemmas
pub mod Laws
pub use Rattle.word_rules.proofs.Common
mod ConstantRows
