pub mod NumberLemmas
pub mod LineLemmas
pub mod MatchLemmas
pub mod BoundLemmas
