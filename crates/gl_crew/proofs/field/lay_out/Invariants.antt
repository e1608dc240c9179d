use Rattle.std.specs.Prelude.{◌≡◌}
use Rattle.gl_crew.proofs.field.lay_out.Given as goal

abbrev pub invariant-loop-key : goal.invariant-loop-key
invariant-loop-key l = l.manager.table.detect ≡ l.fn.detect
