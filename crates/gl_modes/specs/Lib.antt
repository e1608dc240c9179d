pub mod Modes
pub mod Nodes
pub mod Refusals
pub mod Laws
