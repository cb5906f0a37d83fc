pub mod Same
pub mod Named
pub mod Asked
pub mod Holds
pub mod Claims
