pub mod Measures
pub mod Ranges
pub mod Texts
pub mod Claims
