pub mod GapLemmas
pub mod PurgeLemmas
pub mod JoinLemmas
pub mod TakeLemmas
pub mod ZoneLemmas
pub mod SoundLemmas
pub mod OwnerLemmas
pub mod ChangeLemmas
pub mod FigureLemmas
pub mod OrderSumLemmas
pub mod OrderRequestLemmas
pub mod OrderLemmas
pub mod OrderChangeLemmas
pub mod EmptyLemmas
pub mod WrittenLemmas
pub use Rattle.word_rules.proofs.Common
mod ConstantRows
