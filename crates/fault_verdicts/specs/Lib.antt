pub mod Verdicts
pub mod Statements
pub mod Report
pub mod Known
pub mod Theorem
