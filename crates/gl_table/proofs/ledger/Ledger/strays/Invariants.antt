use Rattle.gl_table.proofs.Words.{graph_of, not, parents_of, state_in, stays, take}
use Rattle.gl_model.proofs.law.Strays.{IsSetOf}
use Rattle.gl_table.proofs.ledger.Ledger.strays.Given as goal

-- the set has those so far whose wait does not meet the rule
abbrev pub invariant-loop-slot : goal.invariant-loop-slot
invariant-loop-slot l = IsSetOf (λ w. not (stays (state_in l.graph l.self) (parents_of (graph_of l.graph) l.node) w)) (take l.slot-index l.slot-items) l.strays
