pub mod DirectoryView
pub mod Faults
pub mod Indexes
pub mod Rules
