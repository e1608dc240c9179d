pub mod Whole
pub mod Laws
pub mod Leading
pub mod Actions
pub mod Visiting
pub mod Promises
pub mod Passing
pub mod Resting
