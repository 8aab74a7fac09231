pub mod ArtLemmas
pub mod AskedLemmas
pub mod AuditLemmas
pub mod BaseLemmas
pub mod ColourLemmas
pub mod FetchLemmas
pub mod MiddleLemmas
pub mod NeededPatchLemmas
pub mod NeededPictureLemmas
pub mod PartLemmas
pub mod StepLemmas
pub mod WeaponLemmas
pub mod WholeLemmas
mod ConstantRows
