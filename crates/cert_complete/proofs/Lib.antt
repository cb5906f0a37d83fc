pub mod Loops
pub mod Heads
pub mod Same
pub mod Whole
pub mod Frames
