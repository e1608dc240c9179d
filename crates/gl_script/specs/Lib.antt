pub mod Grammar
pub mod Numbers
pub mod Views
pub mod Left
pub mod Words
pub use Rattle.gl_modes.specs.Modes
