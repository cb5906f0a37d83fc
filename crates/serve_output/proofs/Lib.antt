pub mod EndsLemmas
pub mod OutputLemmas
pub mod CertificateLemmas
pub mod SourceLemmas
pub mod SettlesLemmas
pub mod KeptLemmas
pub mod GivenLemmas
