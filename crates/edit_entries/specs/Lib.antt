pub mod Gaps
pub mod Holes
pub mod Spliced
