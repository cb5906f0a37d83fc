pub mod Lines
pub mod Verify
pub mod Certificate
pub mod Theorem
