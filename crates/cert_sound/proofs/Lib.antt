pub mod Fitting
pub mod Inverted
pub mod Safe
pub mod Whole
