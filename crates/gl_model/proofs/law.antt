-- What each change of the state keeps of the law.
pub mod Orderly
pub mod Keeps
pub mod Takes
pub mod Tests
pub mod Lock
pub mod Edges
pub mod Departures
pub mod Records
pub mod Schema
pub mod Rows
pub mod Strays
pub mod Move
pub mod Effects
pub mod Searches
pub mod Settle
pub mod KeptRows
