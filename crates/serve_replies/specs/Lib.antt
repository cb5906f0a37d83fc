pub mod Names
pub mod Readings
pub mod Refusals
pub mod Runs
pub mod States
pub mod Texts
