-- A record is made of a file, which stays a file. For adopted records.
use Rattle.gl_graph.proofs.Words.{arith, born_node, Graph, is_file_shape, IsLawfulGraph, List, Node, NodeId, Ok, record_refusal, Refuses, shape_of, true, ℕ}
use Rattle.gl_graph.proofs.Words.{◌≡◌}

pub file_stays : (g g' : Graph) → IsLawfulGraph g → (f : NodeId) (keys : List ℕ) (n : NodeId) → Refuses (record_refusal g f keys) (Ok n) → (node : Node)
    → g' ≡ born_node g node → is_file_shape (shape_of g' f) ≡ true
file_stays g g' law f keys n refuses node is = grind arith
