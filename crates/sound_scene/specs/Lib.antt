pub mod Bases
pub mod Scenes
pub mod Sound
pub mod Pictures
pub mod Views
pub mod Whole
pub mod Rules
