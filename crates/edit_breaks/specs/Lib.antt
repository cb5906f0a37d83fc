pub mod Bounds
pub mod Breaks
