use Rattle.gl_waits.proofs.Words.{arith, row_edge}
use Rattle.gl_waits.proofs.BoardLemmas.{row_edge-inside}
use Rattle.gl_waits.proofs.Closing.{closing-done, closing-step}
use Rattle.gl_waits.proofs.suspect.reaches_of_all.Goals as goal

pub loop-middle-preserved : goal.loop-middle-preserved
loop-middle-preserved c = (
  closing-step (row_edge c.args.rows.now) (row_edge c.loop-middle.reaches)
      (row_edge c.pass_through.new.reaches) c.loop-middle.middle c.loop-middle.invariant.0 c.pass_through.ensures,
  c.type_inv.reaches,
)

pub returns : goal.returns
returns c = λ s u. (
  c.loop-middle.invariant.0.sound s u,
  closing-done (row_edge c.args.rows.now) (row_edge c.loop-middle.reaches) c.loop-middle.middle c.loop-middle.invariant.0
      (λ m v h. let low = row_edge-inside c.loop-middle.reaches m v h in let many = c.loop-middle.invariant.1 in omega arith) s u,
)
