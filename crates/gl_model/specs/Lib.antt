pub mod State
pub mod Calls
pub mod Lawful
pub mod Tellings
pub mod Deadlocks
pub mod Splits
pub mod SplitLaws
