-- What splits and merges leave of a state: its law, effective modes, and what others read.
pub mod Turned
pub mod Recuts
pub mod Renamed
pub mod Carried
pub mod Effects
pub mod Excluded
pub mod Split
pub mod Merge
pub mod Links
pub mod Tellings
pub mod Laws
