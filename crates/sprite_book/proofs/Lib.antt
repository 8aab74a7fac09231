pub mod CallLemmas
pub mod FrameLemmas
pub mod ListLemmas
pub mod MentionLemmas
pub mod NeedLemmas
pub mod PictureLemmas
pub mod ReadLemmas
