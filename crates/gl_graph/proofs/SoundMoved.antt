-- For crates that cite it from here.
pub use Rattle.gl_graph.proofs.Written.{inner_live}
