-- An index over no records is an index of a file without any.
use Rattle.gl_graph.proofs.Words.{[], arith, Graph, IsIndexBorn, List, NodeId, None, reindex_refusal, subst, sym, ℕ, ◌≡◌}
use Rattle.gl_graph.proofs.Beside.{any_counted}
use Rattle.gl_graph.specs.Graph.{is_record_of, nodes}
use Rattle.gl_graph.specs.Over.{IsIndexOver, over_refusal}

pub over_none : (g : Graph) (ps : List NodeId) (f : NodeId) (bs : List ℕ) → reindex_refusal g ps f bs ≡ None → over_refusal g ps f bs [] [] ≡ None
over_none g ps f bs h = let counted = any_counted (is_record_of g f) (nodes g) in grind arith

pub born_over : (g g' : Graph) (n : NodeId) (ps : List NodeId) (f : NodeId) (bs : List ℕ) → IsIndexOver g g' n ps f bs [] [] → IsIndexBorn g g' n ps f bs
born_over g g' n ps f bs o = subst (λ (h : Graph). IsIndexBorn g h n ps f bs) (sym o.after) o.index
