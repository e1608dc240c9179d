pub mod Boards
pub mod Rules
pub mod Strip
pub mod Tellings
pub mod Seats
pub mod Window
