pub mod Rest
pub mod Shorter
