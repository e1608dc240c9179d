use Rattle.gl_header.proofs.Words.{◌∙◌, NL, sym}
use Rattle.gl_header.proofs.Ahead.{ahead-first}
use Rattle.gl_header.proofs.entries.ahead_of.Goals as goal

pub returns-then-other-slot : goal.returns-then-other-slot
returns-then-other-slot c = λ u.
    c.loop-other.invariant.them u ∙ sym
    (ahead-first c.args.queue.now c.args.slot u c.loop-other.other-index (0, NL) c.loop-other-test.true c.if-other-slot.true c.loop-other.invariant.none)
