pub mod Operations
pub mod Laws
pub mod Checks
pub mod Guards
pub mod Claims
