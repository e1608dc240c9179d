-- the words that proofs use
pub mod Words
-- what one change leaves of those before a wait
mod Before
-- each command, each step and each run
mod Turns
mod Steps
mod Served
mod Passes
mod Ends
-- victims, and what comes before them
mod VictimOrder
mod KeepsTurns
-- what a run leaves of one that it does not name
pub mod Aside
