-- Managers: their places in C's memory, what a place holds, and what a command does to that.
pub mod Carries
pub mod Guarded
pub mod Handle
pub mod Held
pub mod Managing
pub mod Serving
pub mod Session
pub mod Showing
pub mod Sound
