use Rattle.std.proofs.Common.{◌≡◌, ◌-◌, ◌^◌, []}
use Rattle.gl_catalog.specs.Manager.{state_of}
use Rattle.gl_catalog.specs.Paths.{KeepsPath}
use Rattle.gl_waiting.specs.Tries.{HasManager}
use Rattle.gl_waiting.proofs.TriedPaths.{LeadsUp}
use Rattle.gl_waiting.proofs.delivery.Delivery.try_up.Given as goal

-- a path from here is a path from the beginning, and what was known above is
abbrev pub invariant-path : goal.invariant-path
invariant-path l = record {
  empty : l.told.items ≡ [];
  manager : HasManager l.fn.self l.self.manager l.self;
  leads : LeadsUp l.txn (l.node, l.mode) l.fn.self.manager l.self.manager;
  kept : KeepsPath (state_of l.self.manager) l.txn (l.node, l.mode) l.above.items;
}

abbrev pub decreases-path : goal.decreases-path
decreases-path l = 2 ^ 64 - l.self.manager.accepted
