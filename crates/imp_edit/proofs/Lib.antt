pub mod Tallies
pub mod Once
pub mod Numbered
pub mod TreeLemmas
pub mod ProcedureLemmas
pub mod NextLemmas
pub mod RefusalLemmas
mod Worked
pub mod ApplyLemmas
pub mod Exchanged
pub mod GuardLemmas
pub mod CallFreeLemmas
pub mod GapLemmas
pub mod SpliceLemmas
pub mod BreaksTold
pub mod NewEntryLemmas
pub mod SpliceMade
