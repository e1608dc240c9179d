-- Calls of transactions: paths, rows, savepoints, tries, begins in turn, and what becomes of a wait.
pub mod Paths
pub mod Resting
pub mod Rows
pub mod Savepoints
pub mod Tries
pub mod Turns
pub mod Verdicts
pub mod Waiters
