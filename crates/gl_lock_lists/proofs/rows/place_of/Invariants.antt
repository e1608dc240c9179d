use Rattle.gl_lock_lists.proofs.Words.{◌<◌, ◌≡◌, ◌≤◌, false, get_or, length, NodeId, same_node, ℕ}
use Rattle.gl_lock_lists.proofs.rows.place_of.Given as goal

-- no entry from here on has the node
abbrev pub invariant-loop-place : goal.invariant-loop-place
invariant-loop-place g l = (i : ℕ) (d : NodeId × g.row.V.Denot) → l.place ≤ i → i < length l.rows → same_node (get_or l.rows i d).0 l.node ≡ false
