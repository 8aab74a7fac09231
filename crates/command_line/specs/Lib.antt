pub mod Simple
pub mod Choices
pub mod LevelJobs
pub mod Commands
pub mod Worked
pub mod Rules
