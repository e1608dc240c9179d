use Rattle.gl_window.proofs.Words.{◌<◌, ◌≡◌, has_slot, holds, is_waiting_at, members, NodeId, state_of, true, ℕ}
use Rattle.gl_window.proofs.parties.parties_of.Given as goal

abbrev pub invariant-loop-slot : goal.invariant-loop-slot
invariant-loop-slot l =
    (u : ℕ) → u < l.slot → (n : NodeId) → is_waiting_at (state_of l.manager) u n ≡ true
    → (has_slot l.parties u ≡ true) × ((t : ℕ) → holds (members (state_of l.manager) n) t ≡ true → has_slot l.parties t ≡ true)
