pub mod LineLemmas
pub mod Behind
