use Rattle.gl_table.proofs.Words.{graph_of, has_slot, number_of, parents_of, state_in, stays}
use Rattle.gl_table.proofs.inside.TurnedAway.{IsTurning}
use Rattle.gl_table.proofs.ledger.Ledger.turn_away.Given as goal

-- the waits of all strays but those that are left are over
abbrev pub invariant-loop-slot : goal.invariant-loop-slot
invariant-loop-slot l = IsTurning l.fn.self l.self l.node (state_in l.graph l.fn.self)
    (stays (state_in l.graph l.fn.self) (parents_of (graph_of l.graph) l.node))
    (has_slot l.strays) l.fn.told.items l.told.items

-- each slot that is removed leaves fewer
abbrev pub decreases-loop-slot : goal.decreases-loop-slot
decreases-loop-slot l = number_of l.strays
