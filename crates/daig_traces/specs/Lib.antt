pub mod Traces
pub mod Theorems
