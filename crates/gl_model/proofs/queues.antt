-- Queues, counts and walks, with no state.
pub mod Waiters
pub mod Edits
pub mod Counts
pub mod Walks
pub mod Fronts
