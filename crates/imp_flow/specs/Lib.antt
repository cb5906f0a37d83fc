pub mod Nodes
pub mod Plans
pub mod PlanCode
pub mod Reached
pub mod Owners
pub mod Shifts
pub mod Changed
pub mod Searches
