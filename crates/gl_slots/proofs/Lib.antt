pub mod BitLemmas
pub mod SlotLemmas
pub mod WordLemmas
mod Steps
