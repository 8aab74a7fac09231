pub mod Contents
pub mod Lookups
pub mod Names
pub mod Wads
