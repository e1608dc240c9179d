use Rattle.gl_lock_lists.proofs.Words.{◌≡◌, count_of, graph_of, is_listed, keys, NodeId, take}
use Rattle.gl_lock_lists.proofs.Children.{HasMarked}
use Rattle.gl_lock_lists.proofs.list.LockList.mark_covered.Given as goal

-- the covered children at the places so far are marked
abbrev pub invariant-loop-at : goal.invariant-loop-at
invariant-loop-at l = record {
  listed : (q : NodeId) → is_listed l.self q ≡ is_listed l.fn.self q;
  modes : HasMarked (graph_of l.fn.graph) l.fn.node l.fn.self l.self (take l.at (keys l.fn.self.entries));
  counts : (q : NodeId) → count_of l.self q ≡ count_of l.fn.self q;
  keys : keys l.self.entries ≡ keys l.fn.self.entries;
}
