pub mod Lines
pub mod Counted
pub mod Lengths
pub mod Short
pub mod ShortSource
