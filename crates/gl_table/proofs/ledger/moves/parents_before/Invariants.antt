use Rattle.gl_table.proofs.Words.{◌≡◌, take}
use Rattle.gl_table.proofs.ledger.moves.parents_before.Given as goal

abbrev pub invariant-loop-parent : goal.invariant-loop-parent
invariant-loop-parent l = l.parents.items ≡ take l.parent-index l.parent-items
