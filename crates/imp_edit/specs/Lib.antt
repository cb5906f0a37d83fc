pub mod Changes
pub mod Edited
pub mod Gaps
pub mod Made
pub mod CallFreeParts
pub mod Refusals
pub mod EditChange
