pub mod Entries
pub mod Telling
pub mod Places
