pub mod Calls
pub mod Indexes
pub mod Rules
