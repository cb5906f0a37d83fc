pub mod Words
pub mod SlotLemmas
pub mod WorkLemmas
pub mod StandLemmas
pub mod RunLemmas
