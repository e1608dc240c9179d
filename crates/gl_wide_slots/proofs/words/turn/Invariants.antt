use Rattle.std.proofs.Common.{◌≡◌, ℕ, ◌<◌, ◌≤◌, ◌^◌, get_or}
use Rattle.std.specs.Int.{bit_not, w64}
use Rattle.gl_wide_slots.proofs.words.turn.Given as goal

-- the words before are written, those from here on stay
abbrev pub invariant-loop-place : goal.invariant-loop-place
invariant-loop-place l = record {
  turned : (w : ℕ) → w < l.place → get_or l.words w 0 ≡ bit_not w64 (get_or l.fn.words w 0);
  fits : (w : ℕ) → w < l.place → get_or l.fn.words w 0 < 2 ^ 64;
  kept : (w : ℕ) → l.place ≤ w → get_or l.words w 0 ≡ get_or l.fn.words w 0;
}
