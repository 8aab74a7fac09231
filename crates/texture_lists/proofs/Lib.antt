pub mod PartLemmas
pub mod IndexLemmas
pub mod JudgeLemmas
pub mod BesideLemmas
