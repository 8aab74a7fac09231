pub mod MarkLemmas
pub mod MemberLemmas
pub mod NeededLemmas
pub mod PictureLemmas
pub mod SceneLemmas
pub mod SizeLemmas
pub mod SurfaceLemmas
pub mod FullLemmas
