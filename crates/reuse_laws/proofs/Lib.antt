pub mod Rest
pub mod Named
pub mod Shorter
pub mod Cells
pub mod Grown
pub mod Lines
