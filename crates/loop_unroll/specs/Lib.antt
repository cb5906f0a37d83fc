pub mod Iterates
pub mod Stages
