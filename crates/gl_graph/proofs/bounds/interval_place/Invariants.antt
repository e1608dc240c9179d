use Rattle.gl_graph.proofs.Words.{get_or, length, ℕ, ◌-◌, ◌<◌, ◌≤◌}
use Rattle.gl_graph.proofs.bounds.interval_place.Given as goal

abbrev pub invariant-loop-low : goal.invariant-loop-low
invariant-loop-low l = record {
  ordered : l.low ≤ l.high;
  within : l.high ≤ length l.bounds;
  begins : (j : ℕ) → j < l.low → get_or l.bounds j 0 ≤ l.key;
  ends : (j : ℕ) → l.high ≤ j → j < length l.bounds → l.key < get_or l.bounds j 0;
}

abbrev pub decreases-loop-low : goal.decreases-loop-low
decreases-loop-low l = l.high - l.low
