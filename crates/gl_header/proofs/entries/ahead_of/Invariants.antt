use Rattle.gl_header.proofs.Words.{◌≡◌, false, has_slot, is_among_waiters, take, ℕ}
use Rattle.gl_header.proofs.entries.ahead_of.Given as goal

-- the slot is none of those so far, and the set has them
abbrev pub invariant-loop-other : goal.invariant-loop-other
invariant-loop-other l = record {
  none : is_among_waiters l.slot (take l.other-index l.queue) ≡ false;
  them : (u : ℕ) → has_slot l.slots u ≡ is_among_waiters u (take l.other-index l.queue);
}
