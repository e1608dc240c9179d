use Rattle.std.proofs.Common.{◌≡◌, ℕ, ◌<◌, ◌≤◌, get_or, bit_or}
use Rattle.gl_wide_slots.proofs.words.add.Given as goal

-- the words before are written, those from here on stay
abbrev pub invariant-loop-place : goal.invariant-loop-place
invariant-loop-place l = record {
  written : (w : ℕ) → w < l.place → get_or l.words w 0 ≡ bit_or (get_or l.fn.words w 0) (get_or l.others w 0);
  kept : (w : ℕ) → l.place ≤ w → get_or l.words w 0 ≡ get_or l.fn.words w 0;
}
