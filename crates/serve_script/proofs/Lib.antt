pub mod WriteLemmas
pub mod LineLemmas
pub mod ScriptLemmas
pub mod LastLemmas
