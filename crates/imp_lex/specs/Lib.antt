pub mod Numbers
pub mod Kinds
pub mod Front
pub mod Lexing
pub mod Names
