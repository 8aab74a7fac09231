pub mod Strips
pub mod Values
pub mod Floors
pub mod Posts
pub mod Middles
pub mod Pictures
pub mod Works
pub mod Rules
