pub mod BandLemmas
pub mod WordLemmas
mod ConstantRows
