use Rattle.gl_table.proofs.Words.{◌≡◌, ◌≤◌, AreSound, holds, length, list_any, ListsLose, members, NodeId, nodes_by, same_node, state_in, take}
use Rattle.gl_table.proofs.inside.Departures.{IsLeaving}
use Rattle.gl_table.proofs.ledger.Ledger.leave_all.Given as goal

-- the list of the slot has its nodes in their order, and up to this place those that it still holds
abbrev pub invariant-loop-at : goal.invariant-loop-at
invariant-loop-at l = record {
  sound : AreSound l.self;
  order : nodes_by l.self.lists.items l.slot ≡ nodes_by l.fn.self.lists.items l.slot;
  within : l.at ≤ length (nodes_by l.fn.self.lists.items l.slot);
  listed : (q : NodeId) → list_any (same_node q) (take l.at (nodes_by l.fn.self.lists.items l.slot)) ≡ holds (members (state_in l.graph l.self) q) l.slot;
  leaving : IsLeaving (state_in l.graph l.fn.self) (state_in l.graph l.self) l.slot l.self.lists.items l.fn.told.items l.told.items;
  orders : ListsLose l.fn.self.lists.items l.self.lists.items;
}

abbrev pub decreases-loop-at : goal.decreases-loop-at
decreases-loop-at l = l.at
