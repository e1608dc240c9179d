-- the words that proofs use
pub mod Words
pub mod RowLemmas
pub mod Lists
pub mod Children
