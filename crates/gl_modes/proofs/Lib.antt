pub mod Each
pub mod ModeLemmas
pub mod NodeLemmas
pub mod Spellings
pub mod Words
