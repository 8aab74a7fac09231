pub mod FrameLemmas
pub mod InViewLemmas
pub mod EventLemmas
pub mod ThingLemmas
pub mod CountLemmas
pub mod ListLemmas
pub mod NamedLemmas
pub mod Laws
pub use Rattle.word_rules.proofs.Common
mod ConstantRows
