use Rattle.std.specs.Prelude.{◌≡◌, ◌≤◌, ◌<◌, ℕ, true}
use Rattle.gl_waiting.specs.Resting.{is_intention, lock_in}
use Rattle.gl_waiting.proofs.resting.first_intentions.Given as goal

-- those seen so far are intentions
abbrev pub invariant-loop-place : goal.invariant-loop-place
invariant-loop-place l = (k : ℕ) → l.fn.known ≤ k → k < l.place → is_intention (lock_in l.fn.manager l.fn.txn k) ≡ true
