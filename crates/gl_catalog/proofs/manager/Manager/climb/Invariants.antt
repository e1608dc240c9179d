use Rattle.std.specs.Prelude.{◌≡◌, None}
use Rattle.gl_catalog.specs.Manager.{state_of}
use Rattle.gl_catalog.specs.Paths.{KeepsPath, next_ask}
use Rattle.gl_steps.specs.Tests.{worn}
use Rattle.gl_catalog.proofs.PathSteps.{ClimbsIn}
use Rattle.gl_catalog.proofs.manager.Manager.climb.Given as goal

-- so many steps were climbed, and what was kept is
abbrev pub invariant-up : goal.invariant-up
invariant-up l = record {
  kept : KeepsPath (state_of l.fn.self) l.t (l.node, l.mode) l.fn.above.items
      → KeepsPath (state_of l.fn.self) l.t (l.node, l.mode) l.above.items;
  climb : worn (state_of l.fn.self) ≡ None → ClimbsIn (state_of l.fn.self) l.t (next_ask (l.node, l.mode) l.fn.above.items) l._step
      (next_ask (l.node, l.mode) l.above.items);
}
