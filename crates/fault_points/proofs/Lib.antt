pub mod Words
pub mod Sequences
pub mod Truths
pub mod Terms
pub mod Statements
pub mod Fitting
