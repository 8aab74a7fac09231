pub mod Asked
pub mod Bounds
pub mod Faults
pub mod Groups
pub mod Lumps
pub mod Rules
