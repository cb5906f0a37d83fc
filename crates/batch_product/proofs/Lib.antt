pub mod Lists
pub mod Values
pub mod Rounds
pub mod Blocks
pub mod Places
pub mod Answers
pub mod Changes
