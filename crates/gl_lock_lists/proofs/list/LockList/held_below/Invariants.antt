use Rattle.gl_lock_lists.proofs.Words.{◌&&◌, ◌≡◌, count_by, graph_of, is_child, keys, mode_of, NL, not, same_mode, take}
use Rattle.gl_lock_lists.proofs.list.LockList.held_below.Given as goal

-- the held children among the nodes seen so far are counted
abbrev pub invariant-loop-place : goal.invariant-loop-place
invariant-loop-place l =
    l.children ≡ count_by (λ c. is_child (graph_of l.fn.graph) l.fn.node c && not (same_mode (mode_of l.fn.self c) NL)) (take l.place (keys l.fn.self.entries))
