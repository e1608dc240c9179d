use Rattle.std.specs.Prelude.{◌≡◌, ◌+◌}
use Rattle.std.proofs.Common.{ap, arith, refl, subst, sym, ◌∙◌}
use Rattle.gl_catalog.specs.Manager.{ManagerView, state_of}
use Rattle.gl_catalog.specs.Paths.{KeepsPath}
use Rattle.gl_waiting.specs.Tries.{TriesPath}
use Rattle.gl_waiting.specs.declared.tries.Tried.{Tried}
use Rattle.gl_waiting.proofs.TriedPaths.{at_once, ends, lowered, manager_then, on_counts, one_on}
use Rattle.gl_waiting.proofs.delivery.Delivery.try_up.Goals as goal

pub path-init : goal.path-init
path-init c = record {
  empty = c.requires.empty;
  manager = refl;
  leads = at_once c.args.txn (c.args.node, c.args.mode) c.args.self.now.manager;
  kept = subst (KeepsPath (state_of c.args.self.now.manager) c.args.txn (c.args.node, c.args.mode)) (sym c.new-above.ensures) (λ counts. tt);
}

pub path-preserved : goal.path-preserved
path-preserved c =
    let on = sym c.climbs_down.ensures ∙ c.if-not-climbs_down.false in
    let one = c.try_first-tried.ensures in
    record {
      empty = one.untold;
      manager = manager_then c.args.self.now c.path.self c.try_first-tried.new.self c.path.invariant.manager one.manager;
      leads = one_on c.args.txn (c.args.node, c.args.mode) c.args.self.now.manager c.path.self.manager c.try_first-tried.new.self.manager
          c.try_first-tried.result.0 c.try_first-tried.result.1 c.path.invariant.leads one.tries on;
      kept = lowered c.args.txn (c.args.node, c.args.mode) c.args.self.now.manager c.path.self.manager c.try_first-tried.new.self.manager
          c.try_first-tried.result.0 c.try_first-tried.result.1 c.try_first-tried.new.above.items c.go_down.new.above.items on one.below c.go_down.ensures;
    }

pub path-smaller : goal.path-smaller
path-smaller c =
    let on = sym c.climbs_down.ensures ∙ c.if-not-climbs_down.false in
    let more : c.try_first-tried.new.self.manager.accepted ≡ c.path.self.manager.accepted + 1 =
    on_counts c.args.txn (c.args.node, c.args.mode) c.args.self.now.manager c.path.self.manager c.try_first-tried.new.self.manager
    c.try_first-tried.result.0 c.try_first-tried.result.1 c.try_first-tried.ensures.tries on in
    let is : c.accepted-counted.result ≡ c.try_first-tried.new.self.manager.accepted =
    c.accepted-counted.ensures ∙ ap (λ (m : ManagerView). m.accepted) c.manager.ensures in
    omega (arith, more, is)

pub returns-then-not-climbs_down-clause-path : goal.returns-then-not-climbs_down-clause-path
returns-then-not-climbs_down-clause-path c =
    subst (λ (came : Tried). TriesPath c.args.txn (c.args.node, c.args.mode) c.args.self.now.manager came c.try_first-tried.new.self.manager)
    (sym c.tried_as.ensures)
    (ends c.args.txn (c.args.node, c.args.mode) c.args.self.now.manager c.path.self.manager c.try_first-tried.new.self.manager
    c.try_first-tried.result.0 c.try_first-tried.result.1 c.path.invariant.leads c.try_first-tried.ensures.tries
    (sym c.climbs_down.ensures ∙ c.if-not-climbs_down.true))

pub returns-then-not-climbs_down-clause-manager : goal.returns-then-not-climbs_down-clause-manager
returns-then-not-climbs_down-clause-manager c =
    manager_then c.args.self.now c.path.self c.try_first-tried.new.self c.path.invariant.manager c.try_first-tried.ensures.manager
