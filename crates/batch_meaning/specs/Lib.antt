pub mod Values
pub mod Batch
pub mod Places
pub mod Answers
pub mod Report
