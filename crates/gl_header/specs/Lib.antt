pub mod Header
pub mod Groups
pub mod Entries
pub mod State
pub mod Answers
pub mod Sound
pub mod Headers
pub mod Places
