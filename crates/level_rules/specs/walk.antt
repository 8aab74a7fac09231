pub mod Covered
pub mod Boxes
pub mod Segs
pub mod Events
pub mod Walk
pub mod Drawsegs
