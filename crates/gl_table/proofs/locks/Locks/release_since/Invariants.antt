use Rattle.gl_table.proofs.Words.{length, ListsLose, nodes_by, state_at}
use Rattle.gl_table.proofs.inside.Back.{IsGoingBack}
use Rattle.gl_table.proofs.locks.Locks.release_since.Given as goal

abbrev pub invariant-pass : goal.invariant-pass
invariant-pass l = record {
  going : IsGoingBack (state_at l.fn.self) (state_at l.self) l.slot l.mark (nodes_by l.fn.self.ledger.lists.items l.slot)
      (nodes_by l.self.ledger.lists.items l.slot) l.fn.told.items l.told.items;
  orders : ListsLose l.fn.self.ledger.lists.items l.self.ledger.lists.items;
}

-- each pass but the last releases some
abbrev pub decreases-pass : goal.decreases-pass
decreases-pass l = length (nodes_by l.self.ledger.lists.items l.slot)
