use Rattle.gl_graph.proofs.Words.{drop, is_rising, map, NodeId, ◌∷◌, ◌≡◌}
use Rattle.gl_graph.proofs.graph.checks.are_in_order.Given as goal

abbrev pub invariant-loop-id : goal.invariant-loop-id
invariant-loop-id l = is_rising (l.last ∷ map (λ (n : NodeId). n.birth) (drop l.id-index l.ids)) ≡ is_rising (0 ∷ map (λ (n : NodeId). n.birth) l.ids)
