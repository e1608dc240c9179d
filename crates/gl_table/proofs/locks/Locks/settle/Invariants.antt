use Rattle.gl_table.proofs.Words.{◌<◌, ◌≡◌, Deadlock, is_wait, IsBetween, ListsLose, None, notices_in, SettlesKeeping, State, state_at, status_of, TellsAll}
use Rattle.gl_table.proofs.Words.{true, ℕ}
use Rattle.gl_table.proofs.inside.Withdrawn.{how_many_wait}
use Rattle.gl_table.proofs.locks.Locks.settle.Given as goal

-- between two victims: what settles the slot from here settles it from the start and records the same, and the notices agree with the changes so far
abbrev pub invariant-loop-victim : goal.invariant-loop-victim
invariant-loop-victim l = record {
  has_entry : l.slot < (state_at l.self).most;
  untold : (u : ℕ) → is_wait (status_of (state_at l.self) u) ≡ true → notices_in l.told.items u ≡ None;
  settled : (s' : State) (d' : Deadlock) → SettlesKeeping l.victims (state_at l.self) l.slot l.deadlock s' d'
      → SettlesKeeping l.victims (state_at l.initial.self) l.slot l.initial.deadlock s' d';
  keeps_between : (s : State) → IsBetween s (state_at l.initial.self) → IsBetween s (state_at l.self);
  tells : TellsAll (state_at l.initial.self) (state_at l.self) l.initial.told.items l.told.items;
  orders : ListsLose l.initial.self.ledger.lists.items l.self.ledger.lists.items;
}

-- each victim leaves fewer that wait
abbrev pub decreases-loop-victim : goal.decreases-loop-victim
decreases-loop-victim l = how_many_wait (state_at l.self)
