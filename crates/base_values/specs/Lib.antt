pub mod Equal
pub mod Copies
pub mod Claims
pub mod Numbers
