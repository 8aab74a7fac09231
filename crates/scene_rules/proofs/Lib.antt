pub mod NumberedLemmas
pub mod SkyLemmas
pub mod SideLemmas
pub mod FlatLemmas
pub mod Laws
pub use Rattle.word_rules.proofs.Common
mod ConstantRows
