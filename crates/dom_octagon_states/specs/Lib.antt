pub mod Feeding
pub mod Held
pub mod Kept
pub mod Limits
pub mod Tasks
pub mod Transitive
