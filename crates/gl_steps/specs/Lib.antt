pub mod Tests
pub mod Step
pub mod Promises
pub mod Served
