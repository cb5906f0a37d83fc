pub mod AfterLemmas
