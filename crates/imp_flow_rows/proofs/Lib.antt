pub mod LeaveLemmas
pub mod RowLemmas
