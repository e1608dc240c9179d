use Rattle.gl_table.proofs.Words.{◌≡◌, AreExact, departed, graph_of, IsBySlot, list_any, ListsLose, notices_in, same_node, state_in, take, ℕ}
use Rattle.gl_table.proofs.ledger.Ledger.vacate_branch.Given as goal

-- the locks on the children before this place are gone
abbrev pub invariant-loop-interval : goal.invariant-loop-interval
invariant-loop-interval l = record {
  exact : AreExact l.graph l.self;
  state : state_in l.graph l.self ≡ departed (state_in l.graph l.fn.self) (λ q. list_any (same_node q) (take l.interval-index l.interval-items))
      (graph_of l.graph);
  by_slot : IsBySlot l.told.items;
  same : (u : ℕ) → notices_in l.told.items u ≡ notices_in l.fn.told.items u;
  orders : ListsLose l.fn.self.lists.items l.self.lists.items;
}
