pub mod Batches
pub mod Idle
pub mod LockCovers
pub mod Locking
pub mod Published
pub mod Steps
pub mod Tellings
