pub mod Asked
pub mod Faults
pub mod Reads
pub mod Weapons
pub mod scene_load
pub mod Rules
