pub mod Clearing
pub mod EachTold
pub mod Notices
pub mod Rising
pub mod Waking
