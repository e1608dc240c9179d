-- the words that proofs use
pub mod Words
pub mod Ranges
pub mod Fits
pub mod GroupOf
pub mod Fronts
pub mod Waiters
pub mod Unused
mod First
mod Groups
mod Queues
mod Placing
mod Ahead
mod Orderly
mod Pumped
mod Lawful
mod Asks
mod Steps
pub mod Changed
pub mod ByKey
mod AtPlace
mod Alone
