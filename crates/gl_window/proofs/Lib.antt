-- the words that proofs use
pub mod Words
pub mod Adding
pub mod Emptiness
pub mod Fronts
pub mod Idle
pub mod Lists
pub mod RealBoards
pub mod SeatSteps
pub mod Spared
pub mod Waits
