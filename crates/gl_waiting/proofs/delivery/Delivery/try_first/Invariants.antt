use Rattle.std.specs.Prelude.{◌≡◌, [], None}
use Rattle.gl_catalog.specs.Manager.{state_of}
use Rattle.gl_catalog.specs.Paths.{KeepsPath, next_ask}
use Rattle.gl_steps.specs.Tests.{worn}
use Rattle.gl_catalog.proofs.PathSteps.{ClimbsIn}
use Rattle.gl_waiting.proofs.delivery.Delivery.try_first.Given as goal

-- nothing is locked, what was known above is, and so many steps were climbed
abbrev pub invariant-up : goal.invariant-up
invariant-up l = record {
  same : l.self ≡ l.fn.self;
  empty : l.told.items ≡ [];
  kept : KeepsPath (state_of l.fn.self.manager) l.txn (l.node, l.mode) l.above.items;
  climb : worn (state_of l.fn.self.manager) ≡ None → ClimbsIn (state_of l.fn.self.manager) l.txn (next_ask (l.node, l.mode) l.fn.above.items) l._step
      (next_ask (l.node, l.mode) l.above.items);
}
