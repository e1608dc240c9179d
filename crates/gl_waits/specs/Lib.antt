pub use Rattle.gl_slots.specs.Limit
pub use Rattle.gl_slots.specs.Slots
pub mod Waits
pub mod Boards
pub mod Laws
pub mod Victims
