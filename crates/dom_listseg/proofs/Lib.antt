pub mod Collected
pub mod Assumed
pub mod Findings
pub mod Left
pub mod Started
pub mod Stays
