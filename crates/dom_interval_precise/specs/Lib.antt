pub mod Best
pub mod Sets
pub mod Claims
pub mod Losses
