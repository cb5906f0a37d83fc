pub mod NumberLemmas
pub mod ItemLemmas
pub mod LineLemmas
pub mod WritingLemmas
pub mod SendingLemmas
pub mod ReplyLemmas
