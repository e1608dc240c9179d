pub mod BoardRows
pub mod Carrying
mod ListedRows
mod Opening
mod Queues
mod places
mod serving
