pub mod State
pub mod Ranges
pub mod Operations
pub mod Widening
pub mod Covers
pub mod Text
pub mod Domain
pub mod Convergence
