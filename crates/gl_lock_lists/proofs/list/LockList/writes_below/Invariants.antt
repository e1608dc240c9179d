use Rattle.gl_lock_lists.proofs.Words.{◌&&◌, ◌≡◌, false, graph_of, is_at_least, is_child, IX, keys, list_any, mode_of, take}
use Rattle.gl_lock_lists.proofs.list.LockList.writes_below.Given as goal

-- none of the nodes seen so far is such a child
abbrev pub invariant-loop-place : goal.invariant-loop-place
invariant-loop-place l =
    list_any (λ c. is_child (graph_of l.fn.graph) l.fn.node c && is_at_least (mode_of l.fn.self c) IX) (take l.place (keys l.fn.self.entries)) ≡ false
