use Rattle.std.specs.Prelude.{◌≡◌, []}
use Rattle.gl_catalog.specs.Manager.{state_of}
use Rattle.gl_catalog.specs.Paths.{KeepsPath, next_ask, parent_wanted}
use Rattle.gl_catalog.proofs.PathSteps.{wants}
use Rattle.gl_catalog.proofs.manager.Manager.lock_first.Given as goal

-- nothing is locked, and what was kept is
abbrev pub invariant-first : goal.invariant-first
invariant-first l = record {
  same : l.self ≡ l.fn.self;
  empty : l.told.items ≡ [];
  kept : KeepsPath (state_of l.fn.self) l.t (l.node, l.mode) l.above.items;
}

-- whether the next request needs a parent first
abbrev pub decreases-first : goal.decreases-first
decreases-first l = wants (parent_wanted (state_of l.self) l.t (next_ask (l.node, l.mode) l.above.items))
