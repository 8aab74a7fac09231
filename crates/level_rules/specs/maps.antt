pub mod Fields
pub mod Lumps
pub mod Records
pub mod Firsts
pub mod Ranges
pub mod Trees
pub mod Levels
pub mod Sound
