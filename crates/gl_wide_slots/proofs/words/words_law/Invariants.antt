use Rattle.std.proofs.Common.{ℕ, ◌<◌, ◌^◌, get_or}
use Rattle.gl_wide_slots.proofs.words.words_law.Given as goal

-- the words before fit
abbrev pub invariant-loop-place : goal.invariant-loop-place
invariant-loop-place l = (w : ℕ) → w < l.place → get_or l.words w 0 < 2 ^ 64
