-- What is told.
pub mod Follows
pub mod Between
pub mod Lists
pub mod Fronts
pub mod GivenUp
pub mod Unlocks
