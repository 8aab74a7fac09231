pub mod Fulls
pub mod Loads
pub mod Orders
pub mod Calls
