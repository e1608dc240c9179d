-- Calls, for notices, waits and watchers.
pub mod Known
pub mod Serving
pub mod Paths
pub mod RowCalls
pub mod Showing
pub mod Tries
pub mod Backs
pub mod Turns
pub mod Waiters
