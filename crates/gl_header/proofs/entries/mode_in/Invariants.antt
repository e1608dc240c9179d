use Rattle.gl_header.proofs.Words.{◌≡◌, drop, wanted_by}
use Rattle.gl_header.proofs.entries.mode_in.Given as goal

-- no entry so far is the slot's
abbrev pub invariant-loop-entry : goal.invariant-loop-entry
invariant-loop-entry l = wanted_by (drop l.entry-index l.entries) l.slot ≡ wanted_by l.entries l.slot
