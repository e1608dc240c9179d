-- what the calls of a registry do
mod Accepted
mod Adopted
mod GraphChanges
mod LettingGo
mod LeftRows
mod NameChanges
mod RowLocks
mod RowNames
mod SlotSets
mod Touched
pub mod Dropped
-- what they are for waiters: their own commands, among adopted and forgotten records
pub mod Upkeep
pub mod Tidied
pub mod CarriedOut
-- indexes are kept
pub mod KeptIndexes
pub mod DroppedIndexes
pub mod RunsKeepIndexes
pub mod Ways
-- effective modes on rows
pub mod RowEffects
pub mod StandingRows
pub mod KeptRows
pub mod StandingIndexes
pub mod NodeRows
-- what others keep of them, whatever a registry serves
mod KeptOnRows
pub mod Served
mod GoingBack
