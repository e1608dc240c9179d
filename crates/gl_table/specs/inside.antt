pub mod TxnEntries
pub mod TxnEntrySets
pub mod Slots
pub mod Ledger
pub mod Steps
pub mod Cuts
pub mod Locks
pub mod Sound
