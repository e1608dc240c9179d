-- Replies to questions and listings.
pub mod Counts
pub mod Deadlocks
pub mod Listings
pub mod Looks
pub mod Passing
pub mod Rests
pub mod Visits
