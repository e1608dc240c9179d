-- the words that proofs use
pub mod Words
-- the count of accepted commands, which nothing else reads
pub mod Counting
pub mod Accepting
-- steps
pub mod EachStep
pub mod Made
pub mod NotRefused
pub mod Beginning
-- every command keeps the law
pub mod KeepsLaw
pub mod LockCommands
pub mod MakeKeeps
pub mod RowKeeps
pub mod DeleteKeeps
pub mod MoveCommands
pub mod SchemaKeeps
pub mod SplitKeeps
pub mod StepsKeepLaw
-- what every command keeps is proved by the kind of its change
pub mod Changes
-- no command makes a cycle of waits
pub mod Detection
pub mod StepNoCycle
-- what others cannot do to a holder
pub mod OtherChanges
pub mod ToldGrants
pub mod Keeps
pub mod KeptKinds
pub mod GrantCommands
pub mod GraphChanges
pub mod GraphCommands
pub mod RowSteps
pub mod SchemaSteps
pub mod OneStep
pub mod OthersKeep
pub mod RowNames
pub mod StepBelow
pub mod OthersBelow
-- what a mover's own commands leave it
pub mod MoverEffects
pub mod EscalateEffects
-- the model as a program, and rows that it computes
pub mod OneOutcome
pub mod IdleSettle
pub mod LivesOn
pub mod WaitsEnd
pub mod WaitsBegin
pub mod Execute
pub mod ExecuteIsStep
pub mod RowWords
mod LockRows
mod RecordRows
mod AdoptRows
mod MoveRows
mod RefusalRows
mod SchemaRows
mod Limits
-- which commands are counted
pub mod Serving
