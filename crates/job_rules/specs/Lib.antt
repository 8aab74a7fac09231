pub mod Ranges
pub mod LevelJobs
pub mod Commands
pub mod Options
