pub mod Zones
pub mod Requests
pub mod Frees
pub mod Rooms
pub mod Orders
