pub mod OneLine
pub mod Replied
pub mod Refused
