pub mod Read
pub mod Turned
