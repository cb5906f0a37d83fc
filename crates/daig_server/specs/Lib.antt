pub mod Claims
pub mod Tallies
