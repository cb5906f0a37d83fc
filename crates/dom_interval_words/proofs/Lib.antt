pub mod Words
pub mod Ordered
pub mod Texts
pub mod Slots
pub mod Portable
