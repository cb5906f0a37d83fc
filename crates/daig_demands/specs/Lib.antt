pub mod Indices
pub mod Stops
pub mod Walks
pub mod Reports
pub mod Claims
