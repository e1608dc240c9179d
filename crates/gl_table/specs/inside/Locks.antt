-- The locks over their graph, as a state of the model.
use Rattle.gl_table.specs.declared.locks.Locks.{Locks}
use Rattle.gl_table.specs.inside.Ledger.{state_in}
use Rattle.gl_model.specs.State.{State}

-- the state of the ledger over the graph
abbrev pub state_at : Locks → State
state_at l = state_in l.graph l.ledger
