pub mod Printable
pub mod Renumbered
pub mod ReadBack
