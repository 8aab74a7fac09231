pub mod BuilderLemmas
pub mod ListLemmas
