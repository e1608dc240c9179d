pub mod Crews
pub mod Locked
