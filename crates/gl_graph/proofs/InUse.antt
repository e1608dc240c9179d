-- What is in use, read from what is stored beside the graph.
use Rattle.gl_graph.proofs.Words.{ap, arith, beside_in_body, Body, Box, due, FileBody, Global, Graph, IndexBody, is_file_shape, is_in_use, IsLawfulGraph}
use Rattle.gl_graph.proofs.Words.{length, nat_lt, node_at, node_of, NodeId, shape_in, shape_in_body, shape_of, Some, Stored, sym, true, Vec, vertex_of, ℕ, ◌||◌}
use Rattle.gl_graph.proofs.Words.{◌∙◌, ◌≡◌}
use Rattle.gl_graph.specs.declared.node.Body.TheVariants as body
use Rattle.gl_graph.proofs.Beside.{records_found, indexes_found, any_counted}
use Rattle.gl_graph.proofs.Counted.{counted_in}
use Rattle.gl_graph.proofs.Dues.{inner_due}
use Rattle.gl_graph.proofs.KindRules.{index_node}

module _ (g : Graph) (law : IsLawfulGraph g) (n : NodeId) (x : Stored) (node : Some (node_of n.key (vertex_of x)) ≡ node_at g n)
    (beside : beside_in_body x.body ≡ due g n) where
  shape_is : (b : Body) → x.body ≡ b → shape_of g n ≡ Some (shape_in_body b)
  shape_is b is = ap shape_in (sym node) ∙ ap (λ b'. Some (shape_in_body b')) is

  pub file_in_use : (above : Vec NodeId Global) (kept : Box FileBody) → x.body ≡ body.File kept above
      → is_in_use g n ≡ (nat_lt 0 kept.value.records || nat_lt 0 (length kept.value.indexes.items))
  file_in_use above kept is = grind (arith, shape_is, any_counted, records_found, indexes_found)

  pub index_file : (above : Vec NodeId Global) (kept : Box IndexBody) → x.body ≡ body.Index kept above → is_file_shape (shape_of g kept.value.file) ≡ true
  index_file above kept is = (index_node g law n kept.value.file kept.value.bounds.items kept.value.intervals.items (shape_is _ is)).file

  pub inner_in_use : (children : ℕ) (above : Vec NodeId Global) → x.body ≡ body.Inner children above → is_in_use g n ≡ nat_lt 0 children
  inner_in_use children above is = grind (arith, inner_due, counted_in, any_counted)
