-- Watchers: their places in C's memory, and what they see.
pub mod Lookout
pub mod Posted
pub mod Watching
