pub mod Headers
pub mod Regions
pub mod Homes
pub mod Asks
pub mod Walks
pub mod View
pub mod Calls
pub mod Rules
