pub mod Replied
pub mod Places
pub mod Turned
pub mod Edited
pub mod Requested
pub mod Answered
