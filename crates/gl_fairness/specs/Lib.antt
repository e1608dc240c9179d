pub mod Waiting
pub mod Passed
pub mod Ends
pub mod Turns
pub mod Aside
