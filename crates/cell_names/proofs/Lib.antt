pub mod Telling
pub mod PathLemmas
pub mod OnceLemmas
pub mod KeptLemmas
