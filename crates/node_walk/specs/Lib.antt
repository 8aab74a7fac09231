pub mod Lists
pub mod Ranges
pub mod Visits
pub mod Rules
