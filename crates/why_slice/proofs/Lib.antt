mod Turned
pub mod Shifted
pub mod ShiftedRows
pub mod ShiftedTable
mod ShiftedTargets
mod Fitting
mod Idle
pub mod Staying
mod Edited
mod Whole
pub mod Told
pub mod Putting
pub mod Listed
