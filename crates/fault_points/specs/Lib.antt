pub mod Points
pub mod Exact
