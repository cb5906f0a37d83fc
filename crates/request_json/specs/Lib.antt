pub mod Members
pub mod Places
pub mod Names
pub mod Requests
pub mod Replies
pub mod Sending
