pub mod Limit
pub mod Bits
pub mod Words
pub mod Slots
