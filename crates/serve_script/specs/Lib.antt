pub mod Answering
pub mod Lasts
pub mod Lines
pub mod Replies
