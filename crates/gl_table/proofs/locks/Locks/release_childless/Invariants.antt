use Rattle.gl_table.proofs.Words.{◌+◌, ◌≡◌, ◌≤◌, holds_child, length, ListsLose, NodeId, nodes_by, slice_get, Some, state_at, true, ℕ}
use Rattle.gl_table.proofs.inside.Back.{IsGoingBack}
use Rattle.gl_table.proofs.locks.Locks.release_childless.Given as goal

-- the slot rolls back; while nothing is released, a child is held of each node that was passed
abbrev pub invariant-loop-at : goal.invariant-loop-at
invariant-loop-at l = record {
  within : l.at ≤ length (nodes_by l.self.ledger.lists.items l.slot);
  counted : length (nodes_by l.self.ledger.lists.items l.slot) + l.released ≡ length (nodes_by l.fn.self.ledger.lists.items l.slot);
  going : IsGoingBack (state_at l.fn.self) (state_at l.self) l.slot l.mark (nodes_by l.fn.self.ledger.lists.items l.slot)
      (nodes_by l.self.ledger.lists.items l.slot) l.fn.told.items l.told.items;
  passed : l.released ≡ 0 → (i : ℕ) (n : NodeId) → l.at ≤ i → slice_get (nodes_by l.self.ledger.lists.items l.slot) i ≡ Some n
      → holds_child (state_at l.self) l.slot n ≡ true;
  orders : ListsLose l.fn.self.ledger.lists.items l.self.ledger.lists.items;
}

abbrev pub decreases-loop-at : goal.decreases-loop-at
decreases-loop-at l = l.at
