pub mod Words
pub mod Printable
pub mod Texts
pub mod Faultless
