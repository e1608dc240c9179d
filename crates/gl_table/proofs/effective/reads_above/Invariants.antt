use Rattle.gl_table.proofs.Words.{◌-◌, ◌^◌, graph_of, mode_of, never}
use Rattle.gl_model.proofs.law.Searches.{is_read_at, IsSearch}
use Rattle.gl_table.proofs.effective.reads_above.Given as goal

abbrev pub invariant-loop-node : goal.invariant-loop-node
invariant-loop-node l = IsSearch (graph_of l.graph) never (is_read_at (mode_of l.list)) l.fn.n l.found.keys l.at

abbrev pub decreases-loop-node : goal.decreases-loop-node
decreases-loop-node l = 2 ^ 64 - l.at
