pub mod Batches
pub mod Lists
pub mod Sessions
pub mod Sides
pub mod State
pub mod Ties
