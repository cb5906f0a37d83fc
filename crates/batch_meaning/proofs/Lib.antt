pub mod Procedures
pub mod Places
