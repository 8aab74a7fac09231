pub mod CodeRows
pub mod TableRows
