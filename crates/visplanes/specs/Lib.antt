pub mod Planes
pub mod Columns
pub mod Spans
pub mod Full
pub mod Rules
