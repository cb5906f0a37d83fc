pub mod Following
pub mod Verified
