pub mod Folding
pub mod Fold
