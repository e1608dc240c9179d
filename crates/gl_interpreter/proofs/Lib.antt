-- the words that proofs use
pub mod Words
pub mod Writing
pub mod RowByRow
pub mod Reading
pub mod Registers
pub mod Serving
pub mod Printing
pub mod Openings
pub mod Orders
pub mod Sayable
