use Rattle.std.specs.Prelude.{◌≡◌, ◌-◌, []}
use Rattle.gl_graph.specs.Refusals.{max_count}
use Rattle.gl_catalog.specs.Manager.{state_of}
use Rattle.gl_catalog.specs.Paths.{KeepsPath}
use Rattle.gl_catalog.proofs.PathRuns.{LeadsTo}
use Rattle.gl_catalog.proofs.manager.Manager.lock_path_telling.Given as goal

-- a path from here is a path from the beginning, and what was kept is
abbrev pub invariant-path : goal.invariant-path
invariant-path l = record {
  empty : l.told.items ≡ [];
  leads : LeadsTo l.t (l.node, l.mode) l.fn.self l.self;
  kept : KeepsPath (state_of l.self) l.t (l.node, l.mode) l.above.items;
}

-- how many commands can still be counted
abbrev pub decreases-path : goal.decreases-path
decreases-path l = max_count - l.self.accepted
