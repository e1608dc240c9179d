use Rattle.gl_table.proofs.Words.{◌≤◌, AreSound, keys, length, ListsLose, NoneMarkedFrom, OnlyLoses, state_in}
use Rattle.gl_table.proofs.inside.Marked.{IsReleasing}
use Rattle.gl_table.proofs.ledger.Ledger.release_marked.Given as goal

abbrev pub invariant-loop-at : goal.invariant-loop-at
invariant-loop-at l = record {
  sound : AreSound l.self;
  within : l.at ≤ length (keys l.list.entries);
  passed : NoneMarkedFrom l.list l.at;
  releasing : IsReleasing (state_in l.graph l.fn.self) (state_in l.graph l.self) l.slot l.fn.node l.self.lists.items l.list l.fn.told.items l.told.items;
  orders : ListsLose l.fn.self.lists.items l.self.lists.items;
  order : OnlyLoses (keys l.fn.list.entries) (keys l.list.entries);
}

abbrev pub decreases-loop-at : goal.decreases-loop-at
decreases-loop-at l = l.at
