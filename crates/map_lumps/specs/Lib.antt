pub mod Builders
pub mod Views
pub mod Rules
