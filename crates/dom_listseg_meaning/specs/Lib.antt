pub mod State
pub mod Sets
pub mod Operations
pub mod Covers
pub mod Text
pub mod Domain
pub mod Convergence
