pub mod Words
pub mod Slots
pub mod Changes
pub mod Expressions
