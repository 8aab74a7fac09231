pub mod BytesLemmas
pub mod TableLemmas
pub mod TextureLemmas
pub mod NodeLemmas
pub mod WadLemmas
pub mod PictureLemmas
mod ConstantRows
