use Rattle.gl_lock_lists.proofs.Words.{◌+◌, ◌≡◌, ◌≤◌, count_by, count_of, is_listed, keys, mode_of, same_node, spare, take}
use Rattle.gl_modes.specs.declared.node.NodeId.{NodeId as Node}
use Rattle.gl_lock_lists.proofs.list.LockList.count_down.Given as goal

abbrev pub invariant-loop-parent : goal.invariant-loop-parent
invariant-loop-parent l = record {
  listed : (q : Node) → is_listed l.self q ≡ is_listed l.fn.self q;
  modes : (q : Node) → mode_of l.self q ≡ mode_of l.fn.self q;
  counts : (q : Node) → count_of l.self q + count_by (same_node q) (take l.parent-index l.parents) ≡ count_of l.fn.self q;
  room : spare l.fn.self.loose ≤ spare l.self.loose;
  keys : keys l.self.entries ≡ keys l.fn.self.entries;
}
