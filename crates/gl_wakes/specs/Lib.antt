pub mod Boxes
pub mod Notices
pub mod Wakes
