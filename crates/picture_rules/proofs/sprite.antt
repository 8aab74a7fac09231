pub mod OrderLemmas
pub mod ClipLemmas
pub mod MaskedLemmas
