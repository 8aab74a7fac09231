pub mod Composites
pub mod Seen
pub mod Rules
