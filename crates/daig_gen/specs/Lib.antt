pub mod Draws
pub mod Pieces
pub mod Source
pub mod Script
