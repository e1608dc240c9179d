pub mod Keeping
pub mod Orders
pub mod Table
pub mod inside
