-- the words that proofs use
pub mod Words
-- headers, lists and transaction entries: what the code keeps
pub mod inside
-- what the calls make of a table
pub mod calls
