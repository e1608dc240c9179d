use Rattle.std.specs.Prelude.{◌≡◌, ◌&&◌, ◌∷◌, [], Bool, List, length, ◌==◌, Option, Some, true, false, not, if◌then◌else◌}
use Rattle.std.specs.List.{list_all}
use Rattle.std.proofs.Common.{ap, ◌∙◌, sym, rules, tests}
use Rattle.std.proofs.lemmas.Iterator.{YieldsList-from_slice}
use Rattle.std.proofs.lemmas.Iterator.Search.{all_from_yields_List}
use Rattle.gl_modes.specs.declared.node.NodeId.{NodeId}
use Rattle.gl_modes.specs.declared.refusal.Refusal.{Refusal}
use Rattle.gl_modes.specs.declared.refusal.Refusal.TheVariants as no
use Rattle.gl_graph.specs.Graph.{is_live, parents_of}
use Rattle.gl_graph.specs.Refusals.{first_refusal, verdict}
use Rattle.gl_graph.specs.View.{View, graph_of}
use Rattle.gl_model.specs.Calls.{need_exclusive, need_new_parents, some_given}
use Rattle.gl_catalog.specs.Manager.{ManagerView, state_of}
use Rattle.gl_steps.specs.Tests.{move_asks, worn}
use Rattle.gl_catalog.proofs.MoveChecks.{move_kinds, some_given-is}
use Rattle.gl_catalog.proofs.manager.Manager.check_relocate.Goals.{After-can_lie_under, After-check_move, then-not-is_empty, else-not-is_empty}
use Rattle.gl_catalog.proofs.manager.Manager.check_relocate.Goals as goal

-- the new parents live
all_live : (c : After-can_lie_under) → list_all (is_live (state_of c.args.self.now).graph) c.args.parents.now ≡ true
all_live c =
    sym (all_from_yields_List (is_live (state_of c.args.self.now).graph) _ _ c.all.result c.all.ensures.ran (YieldsList-from_slice c.args.parents.now cc)
    (λ x b q k. search (rules, tests)))
    ∙ c.if-not-all.false

-- what the locks say, if the node may have these parents
abbrev locks_left : After-can_lie_under → Bool → Option Refusal
locks_left c both_given =
    first_refusal (need_exclusive (state_of c.args.self.now) c.args.t.slot c.args.n both_given c.args.parents.now ∷ need_new_parents
    (state_of c.args.self.now) c.args.t.slot c.args.n c.args.parents.now ∷ [])

-- there are parents on both sides
abbrev are_given : After-can_lie_under → Bool
are_given c = some_given (parents_of (state_of c.args.self.now).graph c.args.n) && some_given c.args.parents.now

-- whether it may decides first
kinds_left : (c : After-can_lie_under) (lies : Bool) → c.can_lie_under.result ≡ lies
    → first_refusal (worn (state_of c.args.self.now) ∷ move_asks (state_of c.args.self.now) c.args.t c.args.n c.args.parents.now)
    ≡ (if lies then locks_left c (are_given c) else Some no.BadParents)
kinds_left c lies is =
    move_kinds (state_of c.args.self.now) c.args.t c.args.n c.args.parents.now c.in_ok-check_count.ensures c.in_ok-check_active.ensures
    (sym c.lives.ensures ∙ c.if-not-lives.false) (all_live c)
    ∙ ap (λ b. if b then locks_left c (are_given c) else Some no.BadParents) (sym c.can_lie_under.ensures ∙ is)

pub returns-then-not-can_lie_under : goal.returns-then-not-can_lie_under
returns-then-not-can_lie_under c = ap verdict (sym (kinds_left
    (goal.at.returns-then-not-can_lie_under c).After-can_lie_under false c.if-not-can_lie_under.true))

-- that is what was asked
given : (c : After-check_move) → c.if-not-is_empty.both_given ≡ are_given (goal.at.returns c).After-can_lie_under
given c =
    let old : List NodeId = parents_of (state_of c.args.self.now).graph c.args.n in
    let were = c.parents.ensures ∙ ap (λ (g : View). parents_of (graph_of g) c.args.n) (c.graph.ensures
    ∙ ap (λ (v : ManagerView). v.table.graph) c.self.view_is) in
    let some_old : some_given old ≡ not (c.is_empty.result) = some_given-is old ∙ ap (λ (ps : List NodeId). not (length ps == 0)) (sym were)
    ∙ ap not (sym c.is_empty.ensures) in
    elim c.if-not-is_empty.branch [
      | then-not-is_empty w ↦ w.both_given-is ∙ ap not w.is_empty-then-not-is_empty.ensures ∙ sym (some_given-is c.args.parents.now)
          ∙ ap (λ b. b && some_given c.args.parents.now) (sym (some_old ∙ ap not w.if-not-is_empty.true))
      | else-not-is_empty w ↦ w.both_given-is ∙ ap not w.if-not-is_empty.false ∙ ap (λ b. b && some_given c.args.parents.now) (sym (some_old
          ∙ ap not w.if-not-is_empty.false))
    ]

pub returns : goal.returns
returns c = let at = (goal.at.returns c).After-can_lie_under in c.check_move.ensures ∙ ap verdict (ap (locks_left at) (given c)
    ∙ sym (kinds_left at true c.if-not-can_lie_under.false))
