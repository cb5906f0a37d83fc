pub mod NumberLemmas
pub mod FindLemmas
pub mod AddLemmas
pub mod MarkLemmas
