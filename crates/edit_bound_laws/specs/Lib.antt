pub mod Flow
pub mod Bound
pub mod Examples
pub mod Neighbours
pub mod Sources
