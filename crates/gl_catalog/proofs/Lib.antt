-- the manager over the table
pub mod LawfulManager
pub mod Counts
pub mod Uncounted
pub mod Carried
pub mod Managed
pub mod Beginning
pub mod Passing
pub mod Applied
pub mod Completed
pub mod Insertions
pub mod Adopting
pub mod Deletions
pub mod Schemas
pub mod Raising
pub mod RunsOn
pub mod MoveChecks
pub mod KeyedBy
pub mod Relocations
pub mod Rekeyings
-- locks along a path
pub mod Climbing
pub mod KeptPaths
pub mod OwnGrants
pub mod StillWanted
pub mod PathSteps
pub mod PathRuns
pub mod PathOthers
-- going back to a savepoint
pub mod GoingBack
pub mod Savepoints
pub mod ModesRise
