pub mod NearestLemmas
