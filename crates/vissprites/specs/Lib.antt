pub mod Kept
pub mod Bounds
pub mod Rules
