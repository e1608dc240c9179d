use Rattle.gl_window.proofs.Words.{◌<◌, ◌≡◌, bit_at, None, ℕ}
use Rattle.gl_window.proofs.seats.Seats.take.Given as goal

-- it has no seat yet, and has found each so far taken
abbrev pub invariant-loop-number : goal.invariant-loop-number
invariant-loop-number l = record {
  same : l.token.table_id ≡ l.self.table.shared.table_id;
  none : l.token.me.0.has ≡ None;
  tried : (n : ℕ) → n < l.number → bit_at l.token.me.0.tried n ≡ 1;
}
