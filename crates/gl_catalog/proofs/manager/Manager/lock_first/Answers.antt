use Rattle.std.specs.Prelude.{◌<◌, [], None, Option, Some}
use Rattle.std.proofs.Common.{ap, arith, rules, subst, sym, ◌≡◌, ◌∙◌}
use Rattle.gl_modes.specs.declared.node.NodeId.{NodeId}
use Rattle.gl_catalog.specs.Manager.{ManagerView, state_of}
use Rattle.gl_catalog.specs.Paths.{Ask, KeepsPath, missing_parent, next_ask, parent_wanted}
use Rattle.gl_catalog.proofs.KeptPaths.{path_kept}
use Rattle.gl_catalog.proofs.PathSteps.{asked_err, asked_ok, kept_below, refused_wants, wants}
use Rattle.gl_catalog.proofs.manager.Manager.lock_first.Goals.{After-climb}
use Rattle.gl_catalog.proofs.manager.Manager.lock_first.Goals as goal

pub returns-in-Ok-clause-asks : goal.returns-in-Ok-clause-asks
returns-in-Ok-clause-asks c =
    let now = c.first.invariant in
    asked_ok c.args.self.now c.first.self c.lock_telling.new.self now.same c.args.t (c.args.node, c.args.mode) c.next_ask-wanted.result c.first.above.items
    now.kept c.next_ask-wanted.ensures c.lock_telling.new.told.items c.in-Ok.locked c.in-Ok.ensures.step c.in-Ok.ensures.completes

pub returns-in-Ok-clause-below : goal.returns-in-Ok-clause-below
returns-in-Ok-clause-below c = λ grant.
    let now = c.first.invariant in
    kept_below c.args.self.now c.first.self c.lock_telling.new.self now.same c.args.t (c.args.node, c.args.mode) c.next_ask-wanted.result c.first.above.items
    now.kept c.next_ask-wanted.ensures c.lock_telling.new.told.items c.in-Ok.locked c.in-Ok.ensures.step c.law.ensures.lawful grant

pub returns-in_default-clause-asks : goal.returns-in_default-clause-asks
returns-in_default-clause-asks c =
    let now = c.first.invariant in
    let none : missing_parent c.in-Err.refusal ≡ None = search rules in
    asked_err c.args.self.now c.first.self c.lock_telling.new.self now.same c.args.t (c.args.node, c.args.mode) c.next_ask-wanted.result c.first.above.items
    now.kept c.next_ask-wanted.ensures c.lock_telling.new.told.items c.in-Err.refusal c.in-Err.ensures.step c.in-Err.ensures.err none
    c.lock_telling.new.told.items

-- the refusal names the parent that the request needed
named : (c : After-climb) → parent_wanted (state_of c.first.self) c.args.t (next_ask (c.args.node, c.args.mode) c.first.above.items) ≡ Some c.in-Some.parent
named c =
    let some : missing_parent c.in-Err.refusal ≡ Some c.in-Some.parent = search rules in
    ap (parent_wanted (state_of c.first.self) c.args.t) (sym c.next_ask-wanted.ensures)
    ∙ refused_wants (state_of c.first.self) (state_of c.lock_telling.new.self) c.args.t c.next_ask-wanted.result []
    c.in-Err.refusal c.in-Err.ensures.step ∙ some

-- so that it is kept, and what is climbed from there
kept : (c : After-climb) → KeepsPath (state_of c.args.self.now) c.args.t (c.args.node, c.args.mode) c.climb.new.above.items
kept c =
    let t = c.args.t in
    let ask : Ask = (c.args.node, c.args.mode) in
    let same = c.in-Err.ensures.err ∙ c.first.invariant.same in
    let parent : parent_wanted (state_of c.args.self.now) t (next_ask ask c.first.above.items) ≡ Some c.in-Some.parent =
    subst (λ (m : ManagerView). parent_wanted (state_of m) t (next_ask ask c.first.above.items) ≡ Some c.in-Some.parent) c.first.invariant.same (named c) in
    subst (λ (m : ManagerView). KeepsPath (state_of m) t ask c.climb.new.above.items) same
    (c.climb.ensures.kept (subst (λ (m : ManagerView). KeepsPath (state_of m) t ask c.keep.new.above.items) (sym same)
    (λ counts. path_kept (state_of c.args.self.now) t ask c.first.above.items c.keep.new.above.items c.in-Some.parent (c.first.invariant.kept counts) parent
    c.keep.ensures)))

pub first-preserved : goal.first-preserved
first-preserved c = record {
  same = c.in-Err.ensures.err ∙ c.first.invariant.same;
  empty = search rules;
  kept = kept (goal.at.first-preserved c).After-climb;
}

none_before_some : (a b : Option NodeId) (p : NodeId) → a ≡ None → b ≡ Some p → wants a < wants b
none_before_some a b p none some = grind (arith, ap wants none, ap wants some)

pub first-smaller : goal.first-smaller
first-smaller c = none_before_some _ _ c.in-Some.parent c.climb.ensures.first
    (named (goal.at.first-smaller c).After-climb)
