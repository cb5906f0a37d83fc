pub mod Back
pub mod States
pub mod Numbers
pub mod Texts
