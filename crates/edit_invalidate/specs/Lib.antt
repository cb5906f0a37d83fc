pub mod Rows
pub mod RowCode
pub mod Touched
pub mod Claims
