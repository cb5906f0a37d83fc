pub mod Sets
pub mod Operations
pub mod Covers
pub mod Domain
pub mod Convergence
