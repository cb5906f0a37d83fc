pub mod Upstream
pub mod Exchanged
pub mod Claims
