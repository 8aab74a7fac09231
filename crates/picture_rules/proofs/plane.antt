pub mod SpanLemmas
pub mod PlaneLemmas
pub mod BuiltLemmas
pub mod FloorLemmas
