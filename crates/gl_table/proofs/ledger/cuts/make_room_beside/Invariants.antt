use Rattle.gl_table.proofs.Words.{◌<◌, ◌≤◌, counted_by, KeepsLists, room_by, ℕ}
use Rattle.gl_table.proofs.ledger.cuts.make_room_beside.Given as goal

-- the lists so far have the room
abbrev pub invariant-loop-slot : goal.invariant-loop-slot
invariant-loop-slot l = record {
  kept : KeepsLists l.fn.lists.items l.lists.items;
  ready : (u : ℕ) → u < l.slot → 0 < counted_by l.lists.items u l.node → 10 ≤ room_by l.lists.items u;
}
