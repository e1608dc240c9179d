use Rattle.gl_table.proofs.Words.{◌-◌, ◌^◌, graph_of, mode_of}
use Rattle.gl_model.proofs.law.Effects.{is_x}
use Rattle.gl_model.proofs.law.Searches.{is_top, IsSearch}
use Rattle.gl_table.proofs.effective.has_free_root.Given as goal

abbrev pub invariant-loop-node : goal.invariant-loop-node
invariant-loop-node l = let g = graph_of l.graph in IsSearch g (is_x g (mode_of l.list)) (is_top g) l.fn.n l.found.keys l.at

abbrev pub decreases-loop-node : goal.decreases-loop-node
decreases-loop-node l = 2 ^ 64 - l.at
