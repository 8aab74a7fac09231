pub mod Faults
pub mod Lessers
pub mod Plans
pub mod Writes
pub mod Rules
