pub mod Walking
pub mod Summing
pub mod Demanded
pub mod Machine
pub mod Reported
pub mod Indexing
pub mod Stopping
pub mod Worked
