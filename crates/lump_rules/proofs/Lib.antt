pub mod ContentLemmas
pub mod NameLemmas
pub mod WadLemmas
mod ConstantRows
