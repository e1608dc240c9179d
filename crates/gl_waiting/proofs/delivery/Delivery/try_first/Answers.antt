use Rattle.std.specs.Prelude.{◌≡◌, ◌+◌, OnErr, None, Some, Result, Ok, Err}
use Rattle.std.proofs.Common.{ap, arith, rules, subst, sym, ◌∙◌}
use Rattle.gl_modes.proofs.Words.{cases_of}
use Rattle.gl_modes.specs.declared.mode.Mode.{Mode}
use Rattle.gl_modes.specs.declared.node.NodeId.{NodeId}
use Rattle.gl_modes.specs.declared.refusal.Refusal.{Refusal}
use Rattle.gl_graph.specs.Graph.{node_count}
use Rattle.gl_graph.specs.View.{graph_of}
use Rattle.gl_model.specs.declared.txn.TxnId.{TxnId}
use Rattle.gl_catalog.specs.Manager.{ManagerView, state_of}
use Rattle.gl_catalog.specs.Paths.{Ask, next_ask, parent_wanted}
use Rattle.gl_catalog.specs.Replies.{CallSteps, took}
use Rattle.gl_steps.specs.Tests.{worn}
use Rattle.gl_catalog.proofs.Climbing.{climb_ends}
use Rattle.gl_catalog.proofs.KeptPaths.{next_kept, path_kept}
use Rattle.gl_catalog.proofs.PathSteps.{ClimbsIn, full_wants, one_up}
use Rattle.gl_waiting.specs.Delivering.{DeliveryView}
use Rattle.gl_waiting.specs.Tries.{parent_missing, try_of}
use Rattle.gl_waiting.proofs.TriedPaths.{kept_below, once, wants_none, wants_parent}
use Rattle.gl_waiting.proofs.delivery.Delivery.try_first.Goals as goal

-- a try, from the beginning
from : (d₀ d : DeliveryView) (s' : ManagerView) (t : TxnId) (top : Ask) (result : Result Mode Refusal) → d ≡ d₀
    → CallSteps (state_of d.manager) (try_of t top) took result (state_of s') → CallSteps (state_of d₀.manager) (try_of t top) took result (state_of s')
from d₀ d s' t top result same step = subst (λ (x : DeliveryView). CallSteps (state_of x.manager) (try_of t top) took result (state_of s')) same step

still : (d₀ d d' : DeliveryView) (result : Result Mode Refusal) → d ≡ d₀ → OnErr result (d' ≡ d) → OnErr result (d'.manager ≡ d₀.manager)
still d₀ d d' result same err = subst (λ (x : DeliveryView). OnErr result (d'.manager ≡ x.manager)) same (by result err)
  where
    by : (r : Result Mode Refusal) → OnErr r (d' ≡ d) → OnErr r (d'.manager ≡ d.manager)
    by (Ok m) e = tt
    by (Err r) e = ap (λ (x : DeliveryView). x.manager) e

pub returns-in_default-clause-tries : goal.returns-in_default-clause-tries
returns-in_default-clause-tries c =
    let none : parent_missing c.try_at-tried.result ≡ None = search rules in
    let top = c.next_ask-wanted.result in
    once c.args.self.now.manager c.try_at-tried.new.self.manager c.args.txn (c.args.node, c.args.mode) top c.up.above.items
    c.up.invariant.kept c.next_ask-wanted.ensures c.try_at-tried.result none
    (still c.args.self.now c.up.self c.try_at-tried.new.self c.try_at-tried.result c.up.invariant.same c.try_at-tried.ensures.refused)
    (from c.args.self.now c.up.self c.try_at-tried.new.self.manager c.args.txn top c.try_at-tried.result c.up.invariant.same c.try_at-tried.ensures.step)

pub returns-in_default-clause-below : goal.returns-in_default-clause-below
returns-in_default-clause-below c =
    let top = c.next_ask-wanted.result in
    kept_below c.args.self.now.manager c.try_at-tried.new.self.manager c.args.txn (c.args.node, c.args.mode) top c.up.above.items
    c.up.invariant.kept c.next_ask-wanted.ensures c.law.ensures.lawful c.try_at-tried.result
    (from c.args.self.now c.up.self c.try_at-tried.new.self.manager c.args.txn top c.try_at-tried.result c.up.invariant.same c.try_at-tried.ensures.step)

pub up-preserved : goal.up-preserved
up-preserved c =
    let s = state_of c.args.self.now.manager in
    let t = c.args.txn in
    let ask : Ask = (c.args.node, c.args.mode) in
    let top = c.next_ask-wanted.result in
    let above = c.up.above.items in
    let some : parent_missing c.try_at-tried.result ≡ Some c.in-Some.parent = search rules in
    let step = from c.args.self.now c.up.self c.try_at-tried.new.self.manager t top c.try_at-tried.result c.up.invariant.same c.try_at-tried.ensures.step in
    let wants : parent_wanted s t (next_ask ask above) ≡ Some c.in-Some.parent =
    wants_parent c.args.self.now.manager c.try_at-tried.new.self.manager t ask top above c.up.invariant.kept c.next_ask-wanted.ensures
    c.try_at-tried.result c.in-Some.parent some step in
    record {
      same = refused_same c.try_at-tried.result c.in-Some.parent some c.try_at-tried.ensures.refused ∙ c.up.invariant.same;
      empty = c.try_at-tried.ensures.untold;
      kept = λ counts. path_kept s t ask above c.remember.new.above.items c.in-Some.parent (c.up.invariant.kept counts) wants c.remember.ensures;
      climb = λ counts. subst (ClimbsIn s t (next_ask ask c.args.above.now.items) (c.up._step + 1))
          (sym (next_kept ask above c.remember.new.above.items c.in-Some.parent c.remember.ensures))
          (one_up s t (next_ask ask c.args.above.now.items) c.up._step (next_ask ask above) c.in-Some.parent (c.up.invariant.climb counts) wants);
    }
  where
    refused_same : (r : Result Mode Refusal) (p : NodeId) {A : Type 0} → parent_missing r ≡ Some p → OnErr r A → A
    refused_same (Ok m) p e h = absurd (cc e)
    refused_same (Err r) p e h = h

-- after as many steps as there are nodes no parent is wanted
ended : (c : goal.After-try_at) → parent_missing c.try_at.result ≡ None
ended c =
    let s = state_of c.args.self.now.manager in
    let ask : Ask = (c.args.node, c.args.mode) in
    let top = c.next_ask-wanted-2.result in
    let full : c.up._step ≡ c.len-step-end.result = omega arith in
    let none : parent_wanted s c.args.txn (next_ask ask c.up.above.items) ≡ None =
    cases_of (worn s)
    (λ counts. let now = c.up.invariant.climb counts in
    climb_ends s c.args.txn c.law.ensures.lawful.graph (next_ask ask c.args.above.now.items) now.0 (next_ask ask c.up.above.items) now.1
    (now.2 ∙ full ∙ c.len-step-end.ensures.count ∙ ap (λ g. node_count (graph_of g))
    (c.graph.ensures ∙ ap (λ (m : ManagerView). m.table.graph) c.manager.ensures)))
    (λ q e. full_wants s c.args.txn (next_ask ask c.up.above.items) q e) in
    wants_none c.args.self.now.manager c.try_at.new.self.manager c.args.txn ask top c.up.above.items c.up.invariant.kept c.next_ask-wanted-2.ensures
    c.try_at.result none
    (from c.args.self.now c.up.self c.try_at.new.self.manager c.args.txn top c.try_at.result c.up.invariant.same c.try_at.ensures.step)

pub returns-clause-tries : goal.returns-clause-tries
returns-clause-tries c =
    let top = c.next_ask-wanted-2.result in
    once c.args.self.now.manager c.try_at.new.self.manager c.args.txn (c.args.node, c.args.mode) top c.up.above.items
    c.up.invariant.kept c.next_ask-wanted-2.ensures c.try_at.result (ended c)
    (still c.args.self.now c.up.self c.try_at.new.self c.try_at.result c.up.invariant.same c.try_at.ensures.refused)
    (from c.args.self.now c.up.self c.try_at.new.self.manager c.args.txn top c.try_at.result c.up.invariant.same c.try_at.ensures.step)

pub returns-clause-below : goal.returns-clause-below
returns-clause-below c =
    let top = c.next_ask-wanted-2.result in
    kept_below c.args.self.now.manager c.try_at.new.self.manager c.args.txn (c.args.node, c.args.mode) top c.up.above.items
    c.up.invariant.kept c.next_ask-wanted-2.ensures c.law.ensures.lawful c.try_at.result
    (from c.args.self.now c.up.self c.try_at.new.self.manager c.args.txn top c.try_at.result c.up.invariant.same c.try_at.ensures.step)
