pub mod Removal
pub mod Marks
pub mod Turns
