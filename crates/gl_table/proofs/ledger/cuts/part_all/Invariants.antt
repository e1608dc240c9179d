use Rattle.gl_table.proofs.Words.{graph_of}
use Rattle.gl_lock_lists.specs.Lists.{held_below}
use Rattle.gl_table.proofs.inside.Cuts.{AreDone, IsCountedOver}
use Rattle.gl_table.proofs.ledger.cuts.part_all.Given as goal

-- in the lists so far the children are counted there
abbrev pub invariant-loop-slot : goal.invariant-loop-slot
invariant-loop-slot l = AreDone (IsCountedOver l.from l.to (λ x. held_below (graph_of l.graph) x l.to)) l.fn.lists.items l.lists.items l.slot
