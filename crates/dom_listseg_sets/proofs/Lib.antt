pub mod Added
pub mod Folds
pub mod Halves
pub mod Merged
