use Rattle.std.specs.Prelude.{◌≡◌}
use Rattle.gl_crew.proofs.field.begin.Given as goal

abbrev pub invariant-loop-node : goal.invariant-loop-node
invariant-loop-node l = l.manager.table.detect ≡ l.fn.manager.table.detect
