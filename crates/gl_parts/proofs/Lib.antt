-- what holds of each of a list
mod Lists
-- grants of the whole
mod Grants
-- steps and waits of one manager
mod Steps
-- the law of a main manager that leads parts, and what each action leaves of it
mod Leading
mod Bounds
mod Actions
mod Falls
mod Plain
mod Runs
mod Copies
mod Visiting
mod Ways
mod Paths
mod OldWays
mod Adopting
mod BesideRecords
mod NewIndexes
mod Moves
mod MovesAct
mod Rests
mod Boards
