pub mod BreakLemmas
mod PutLemmas
