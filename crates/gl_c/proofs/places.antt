-- What a place in C's memory holds, and how it is taken apart and put together.
pub mod PlaceWords
pub mod PlaceSteps
pub mod PlaceCalls
pub mod PostedWords
pub mod PostedCalls
