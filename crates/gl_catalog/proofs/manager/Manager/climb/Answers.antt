use Rattle.std.specs.Prelude.{◌≡◌, ◌+◌, None, Some}
use Rattle.std.proofs.Common.{ap, arith, rules, subst, sym, ◌∙◌}
use Rattle.gl_modes.proofs.Words.{cases_of}
use Rattle.gl_graph.specs.Graph.{node_count}
use Rattle.gl_graph.specs.View.{graph_of}
use Rattle.gl_catalog.specs.Manager.{state_of}
use Rattle.gl_catalog.specs.Paths.{Ask, next_ask, parent_wanted}
use Rattle.gl_steps.specs.Tests.{worn}
use Rattle.gl_catalog.proofs.Climbing.{climb_ends}
use Rattle.gl_catalog.proofs.KeptPaths.{next_kept, path_kept}
use Rattle.gl_catalog.proofs.PathSteps.{ClimbsIn, full_wants, one_up}
use Rattle.gl_catalog.proofs.manager.Manager.climb.Goals as goal

pub up-preserved : goal.up-preserved
up-preserved c =
    let s = state_of c.args.self.now in
    let ask : Ask = (c.args.node, c.args.mode) in
    let above = c.up.above.items in
    let some : c.parent_wanted.result ≡ Some c.in-Some.parent = search rules in
    let wants : (worn s ≡ None → parent_wanted s c.args.t (next_ask ask above) ≡ Some c.in-Some.parent) =
    λ counts. ap (parent_wanted s c.args.t) (sym c.next_ask-wanted.ensures) ∙ sym (c.parent_wanted.ensures counts) ∙ some in
    record {
      kept = λ kept counts. path_kept s c.args.t ask above c.keep.new.above.items c.in-Some.parent
          (c.up.invariant.kept kept counts) (wants counts) c.keep.ensures;
      climb = λ counts. subst (ClimbsIn s c.args.t (next_ask ask c.args.above.now.items) (c.up._step + 1))
          (sym (next_kept ask above c.keep.new.above.items c.in-Some.parent c.keep.ensures))
          (one_up s c.args.t (next_ask ask c.args.above.now.items) c.up._step (next_ask ask above) c.in-Some.parent
          (c.up.invariant.climb counts) (wants counts));
    }

pub returns-clause-first : goal.returns-clause-first
returns-clause-first c =
    let s = state_of c.args.self.now in
    let ask : Ask = (c.args.node, c.args.mode) in
    let full : c.up._step ≡ c.len-step-end.result = omega arith in
    cases_of (worn s)
    (λ counts. let now = c.up.invariant.climb counts in
    climb_ends s c.args.t c.law.ensures.lawful.graph (next_ask ask c.args.above.now.items) now.0 (next_ask ask c.up.above.items) now.1
    (now.2 ∙ full ∙ c.len-step-end.ensures.count ∙ ap (λ g. node_count (graph_of g)) c.graph.ensures))
    (λ q e. full_wants s c.args.t (next_ask ask c.up.above.items) q e)
