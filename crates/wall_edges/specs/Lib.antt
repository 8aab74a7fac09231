pub mod Lines
pub mod Fragments
pub mod Steppers
