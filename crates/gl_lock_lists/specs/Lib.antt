pub mod Rows
pub mod Sound
pub mod Lends
pub mod Lists
pub mod Apart
