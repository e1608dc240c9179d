use Rattle.gl_table.proofs.Words.{count_of}
use Rattle.gl_table.proofs.inside.Cuts.{AreDone, IsCountedOver}
use Rattle.gl_table.proofs.ledger.cuts.join_all.Given as goal

-- in the lists so far the children are counted there
abbrev pub invariant-loop-slot : goal.invariant-loop-slot
invariant-loop-slot l = AreDone (IsCountedOver l.from l.to (λ x. count_of x l.from)) l.fn.lists.items l.lists.items l.slot
