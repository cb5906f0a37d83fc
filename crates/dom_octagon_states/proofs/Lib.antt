pub mod Forms
pub mod SameKinds
pub mod TaskLemmas
pub mod Tight
pub mod TransitiveLemmas
pub mod WideningLemmas
