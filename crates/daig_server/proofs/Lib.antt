pub mod FewLemmas
pub mod LineLemmas
pub mod TallyLemmas
pub mod ServedLemmas
pub mod GeneratedLemmas
pub mod PartLemmas
