use Rattle.gl_interpreter.proofs.Words.{◌-◌, [], ◌≡◌, ◌≤◌, choices_now, Consumes, false, length, List, SoFar, ℕ}
use Rattle.gl_interpreter.proofs.script.answer_script.Given as goal

abbrev pub invariant-loop-total : goal.invariant-loop-total
invariant-loop-total g l = record {
  held : l.tool.sink.held.items ≡ [];
  whole : l.tool.sink.broken ≡ false;
  bound : l.total ≤ 16777217;
  taken : (read : List ℕ) × (length read ≡ l.total)
      × Consumes (g.R.Read.remaining l.fn.reader) (g.R.Read.remaining l.reader) read
      × SoFar (choices_now l.fn.tool) (g.W.Write.contents l.fn.writer) read (g.W.Write.contents l.writer) l.tool;
}

abbrev pub decreases-loop-total : goal.decreases-loop-total
decreases-loop-total g l = 16777217 - l.total
