use Rattle.gl_interpreter.proofs.Words.{arith, length-drop, take_rest}
use Rattle.gl_interpreter.proofs.Writing.{Appends-kept, Sends-front, Sends-more}
use Rattle.gl_interpreter.proofs.sink.send.Goals as goal

pub loop-at-preserved : goal.loop-at-preserved
loop-at-preserved g c = (
  omega (arith, c.in-Ok.ensures.bound, rw take_rest at c.in-Ok.ensures.bound, length-drop c.loop-at.at c.args.text.now),
  Sends-more _ _ _ c.args.text.now c.loop-at.at c.in-Ok.count c.loop-at.invariant.1 (rw take_rest at c.in-Ok.ensures.bytes),
)

pub returns-in-Ok-eq0 : goal.returns-in-Ok-eq0
returns-in-Ok-eq0 g c = Sends-front _ _ c.args.text.now _
    (Sends-more _ _ _ c.args.text.now c.loop-at.at c.in-Ok-eq0.field-0 c.loop-at.invariant.1 (rw take_rest at c.in-Ok-eq0.ensures.bytes))

pub returns-in-Err : goal.returns-in-Err
returns-in-Err g c = Sends-front _ _ c.args.text.now _ (Appends-kept _ _ _ _ c.loop-at.invariant.1 c.in-Err.ensures.bytes)
