-- the words that proofs use
pub mod Words
pub mod WalkLemmas
pub mod CycleLemmas
pub mod VictimLemmas
pub mod BoardLemmas
pub mod Earlier
mod Closing
mod Chosen
