pub mod Canvases
pub mod Strips
pub mod Dotted
pub mod Places
pub mod Fills
pub mod Standing
pub mod Lying
pub mod Rules
