pub mod WalkLemmas
pub mod FitLemmas
pub mod SearchLemmas
pub mod RunLemmas
pub mod FullLemmas
pub mod WordLemmas
pub mod PartLemmas
pub mod SumLemmas
pub mod EditLemmas
pub mod HomeLemmas
pub mod PurgeLemmas
pub mod TakeLemmas
pub mod LookLemmas
pub mod ChangeLemmas
pub mod WriteLemmas
pub mod ZoneLemmas
mod ConstantRows
