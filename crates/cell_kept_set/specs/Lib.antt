pub mod Touched
pub mod Places
pub mod RowTest
pub mod Claims
pub mod StaysWithin
pub mod SameOperation
pub mod KeptTest
pub mod KeptTestClaims
