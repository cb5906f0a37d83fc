pub mod Chains
pub mod Thresholds
pub mod Claims
