use Rattle.gl_interpreter.proofs.Words.{arith, other_test, refl, same_test}
use Rattle.gl_interpreter.specs.SoFar.{Finishes}
use Rattle.gl_interpreter.proofs.Reading.{Ended, Ended-broken, Ended-flushed, Ended-none, Ended-rest, Ended-whole}
use Rattle.gl_interpreter.proofs.script.finish.Goals.{else-not-is_empty, then-not-is_empty}
use Rattle.gl_interpreter.proofs.script.finish.Goals as goal

pub returns-then-tool : goal.returns-then-tool
unfolding Finishes
returns-then-tool g c d first read so =
    let ended : Ended d first read (g.W.Write.contents c.if-not-is_empty.writer) c.if-not-is_empty.tool.sink =
    elim c.if-not-is_empty.branch [
      | then-not-is_empty w ↦ rw (w.writer-is, w.tool-is)
          (let some = other_test _ _ _ c.is_empty.ensures w.if-not-is_empty.true in
          Ended-rest d first read _ _ c.args.tool.now w.answer_line.new.tool (omega (arith, some)) w.answer_line.ensures.answers so)
      | else-not-is_empty w ↦ rw (w.writer-is, w.tool-is)
          (Ended-none d first read _ c.args.tool.now (same_test _ _ _ c.is_empty.ensures w.if-not-is_empty.false) so)
    ] in
    let done = Ended-broken d first read _ _ c.if-tool.true (Ended-flushed d first read _ _ _ _ c.flush.ensures.text ended) in
    (done.0, done.1, (refl, done.2))

pub returns-else-tool : goal.returns-else-tool
unfolding Finishes
returns-else-tool g c d first read so =
    let ended : Ended d first read (g.W.Write.contents c.if-not-is_empty.writer) c.if-not-is_empty.tool.sink =
    elim c.if-not-is_empty.branch [
      | then-not-is_empty w ↦ rw (w.writer-is, w.tool-is)
          (let some = other_test _ _ _ c.is_empty.ensures w.if-not-is_empty.true in
          Ended-rest d first read _ _ c.args.tool.now w.answer_line.new.tool (omega (arith, some)) w.answer_line.ensures.answers so)
      | else-not-is_empty w ↦ rw (w.writer-is, w.tool-is)
          (Ended-none d first read _ c.args.tool.now (same_test _ _ _ c.is_empty.ensures w.if-not-is_empty.false) so)
    ] in
    Ended-whole d first read _ _ c.if-tool.false c.flush.ensures.empty (Ended-flushed d first read _ _ _ _ c.flush.ensures.text ended)
