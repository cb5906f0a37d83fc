pub mod Words
pub mod Claims
pub mod States
