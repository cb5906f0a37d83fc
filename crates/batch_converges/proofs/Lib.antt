pub mod Known
pub mod Rounds
pub mod Blocks
pub mod OfIntervals
pub mod Whole
pub mod OfOctagons
pub mod OfSegments
pub mod OfShapes
