-- the words that proofs use
pub mod Words
-- queues, counts and walks, with no state
pub mod queues
-- what each change of the state keeps of the law
pub mod law
-- what is told
pub mod telling
-- intervals that split and merge
pub mod splits
