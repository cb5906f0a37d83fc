pub mod Portable
pub mod Followed
pub mod Chained
pub mod Written
