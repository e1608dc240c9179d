use Rattle.std.specs.Prelude.{Err, IfErr, None, Result}
use Rattle.std.proofs.Common.{◌≡◌, ◌∙◌, rules, subst, sym}
use Rattle.gl_modes.specs.declared.refusal.Refusal.{Refusal}
use Rattle.gl_catalog.specs.declared.manager.paths.Reached.{Reached}
use Rattle.gl_catalog.specs.Paths.{LocksPath, missing_parent}
use Rattle.gl_catalog.proofs.PathSteps.{none_missing}
use Rattle.gl_catalog.proofs.PathOthers.{path_leaves}
use Rattle.gl_catalog.proofs.PathRuns.{decided, ends, ends_refused, granted_so, one_on, told_nobody}
use Rattle.gl_catalog.proofs.manager.Manager.lock_path_telling.Goals as goal

pub returns-in_err-reached-clause-path : goal.returns-in_err-reached-clause-path
returns-in_err-reached-clause-path c =
    let is : c.from_residual.result ≡ Err c.in_err-reached.field-0.0 = search rules in
    subst (λ (r : Result Reached Refusal). LocksPath c.args.t (c.args.node, c.args.mode) c.args.self.now c.lock_first.new.told.items r c.lock_first.new.self)
    (sym is)
    (ends_refused c.args.t (c.args.node, c.args.mode) c.args.self.now c.path.self c.lock_first.new.self c.lock_first.new.told.items
    c.in_err-reached.field-0.0 c.path.invariant.leads c.in_err-reached.ensures.asks)

pub returns-in_err-reached-clause-tests : goal.returns-in_err-reached-clause-tests
returns-in_err-reached-clause-tests c = λ q found. decided c.args.t (c.args.node, c.args.mode) c.args.self.now q found c.lock_first.new.told.items
    c.from_residual.result c.lock_first.new.self (returns-in_err-reached-clause-path c)

pub returns-in_err-reached-clause-others : goal.returns-in_err-reached-clause-others
returns-in_err-reached-clause-others c =
    let path = returns-in_err-reached-clause-path c in
    path_leaves path.0 c.args.t (c.args.node, c.args.mode) path.1 c.args.self.now _ c.lock_first.new.self c.law.ensures.lawful path.2

pub returns-in_err-reached-clause-rule : goal.returns-in_err-reached-clause-rule
returns-in_err-reached-clause-rule c =
    let is : c.from_residual.result ≡ Err c.in_err-reached.field-0.0 = search rules in
    subst (λ (r : Result Reached Refusal). IfErr r (λ refusal. missing_parent refusal ≡ None)) (sym is)
    (none_missing c.args.t (c.args.node, c.args.mode) c.path.self c.lock_first.new.self c.lock_first.new.told.items c.in_err-reached.field-0.0
    c.in_err-reached.ensures.asks)

pub returns-then-not-leads_on-clause-path : goal.returns-then-not-leads_on-clause-path
returns-then-not-leads_on-clause-path c =
    ends c.args.t (c.args.node, c.args.mode) c.args.self.now c.path.self c.lock_first.new.self c.lock_first.new.told.items c.in_ok-reached.reached
    c.path.invariant.leads c.in_ok-reached.ensures.asks (sym c.leads_on.ensures ∙ c.if-not-leads_on.true)

pub returns-then-not-leads_on-clause-tests : goal.returns-then-not-leads_on-clause-tests
returns-then-not-leads_on-clause-tests c = λ q found. decided c.args.t (c.args.node, c.args.mode) c.args.self.now q found c.lock_first.new.told.items
    _ c.lock_first.new.self (returns-then-not-leads_on-clause-path c)

pub returns-then-not-leads_on-clause-others : goal.returns-then-not-leads_on-clause-others
returns-then-not-leads_on-clause-others c =
    let path = returns-then-not-leads_on-clause-path c in
    path_leaves path.0 c.args.t (c.args.node, c.args.mode) path.1 c.args.self.now _ c.lock_first.new.self c.law.ensures.lawful path.2

pub go_down-requires : goal.go_down-requires
go_down-requires c =
    let on = sym c.leads_on.ensures ∙ c.if-not-leads_on.false in
    c.in_ok-reached.ensures.below (granted_so c.args.node c.in_ok-reached.reached.node _ on)

pub path-preserved : goal.path-preserved
path-preserved c =
    let on = sym c.leads_on.ensures ∙ c.if-not-leads_on.false in
    record {
      empty = told_nobody c.args.node c.in_ok-reached.reached.node _ on;
      leads = one_on c.args.t (c.args.node, c.args.mode) c.args.self.now c.path.self c.lock_first.new.self c.lock_first.new.told.items
          c.in_ok-reached.reached c.path.invariant.leads c.in_ok-reached.ensures.asks on;
      kept = c.go_down.ensures;
    }
