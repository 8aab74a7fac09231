pub mod Squares
pub mod Curves
pub mod Rules
