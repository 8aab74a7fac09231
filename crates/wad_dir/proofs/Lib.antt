pub mod AnswerLemmas
pub mod EntryLemmas
pub mod FileLemmas
pub mod IndexLemmas
pub mod MapLemmas
pub mod MemberLemmas
