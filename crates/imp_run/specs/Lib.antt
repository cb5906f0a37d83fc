pub mod Held
pub mod Slots
pub mod Store
pub mod Attempts
pub mod Passes
pub mod Work
pub mod Machine
pub mod Outcome
