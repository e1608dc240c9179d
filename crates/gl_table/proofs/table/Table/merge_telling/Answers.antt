use Rattle.gl_table.proofs.Words.{◌∙◌, ◌∷◌, [], ◌≡◌, ap, graph_of, Inside, None, refl, State, state_in, state_of, status_of, subst, sym}
use Rattle.gl_table.proofs.Words.{Agrees, AreSound, Ledger, View, ◌+◌, ◌<◌, ◌==◌, ◌^◌, count_by, counted_by, departed, held_children, if◌then◌else◌}
use Rattle.gl_table.proofs.Words.{parents_of, same_node, ℕ}
use Rattle.gl_table.proofs.Words.{TableView, TellsGone, Told, told, true, view_of}
use Rattle.gl_graph.specs.Splits.{merge, merge_refusal, next_interval}
use Rattle.gl_model.specs.Calls.{holds_x_on_all}
use Rattle.gl_model.specs.Splits.{merged_by}
use Rattle.gl_modes.specs.declared.node.NodeId.{NodeId}
use Rattle.gl_table.specs.inside.Steps.{IsLeftAloneTo}
use Rattle.gl_table.proofs.calls.Merges.{merge_apart, merge_differ, merge_few, merge_left, stands_merged, state_merged, told_merged}
use Rattle.gl_table.proofs.calls.Orders.{orders_of}
use Rattle.gl_table.proofs.calls.Records.{same_state, stands_roomy}
use Rattle.gl_table.proofs.calls.Stands.{may_act, MayStand, put, with_locks}
use Rattle.gl_table.proofs.inside.Places.{kept_then}
use Rattle.gl_table.proofs.table.Table.merge_telling.Goals.{After-prepare_cut}
use Rattle.gl_table.proofs.table.Table.merge_telling.Goals as goal

-- room was made

ready : (c : After-prepare_cut) → MayStand c.self.inside c.self.inside.locks.graph c.prepare_cut.new.self
ready c = stands_roomy c.self.inside c.self.invariant c.prepare_cut.new.self c.prepare_cut.ensures.kept

pub invariant_of-locks : goal.invariant_of-locks
invariant_of-locks c = (ready (goal.at.invariant_of-locks c).After-prepare_cut).law

abbrev roomy : After-prepare_cut → Inside
roomy c = put c.self.inside c.self.inside.locks.graph c.prepare_cut.new.self (ready c).law

same : (c : After-prepare_cut) → state_of (view_of (roomy c)) ≡ state_of c.args.self.now
same c = same_state c.self.inside c.self.invariant c.prepare_cut.new.self c.prepare_cut.ensures.kept ∙ ap (λ (v : TableView). state_of v) c.self.view_is

free : (c : After-prepare_cut) → merge_refusal (graph_of c.self.inside.locks.graph) c.args.interval ≡ None
free c = subst (λ (v : TableView). merge_refusal (state_of v).graph c.args.interval ≡ None) (sym c.self.view_is) c.requires.free

exclusive : (c : After-prepare_cut) → holds_x_on_all (state_of (view_of (roomy c))) c.args.t.slot
    (c.args.interval ∷ next_interval (graph_of c.self.inside.locks.graph) c.args.interval ∷ []) ≡ true
exclusive c = subst (λ (s : State). holds_x_on_all s c.args.t.slot (c.args.interval ∷ next_interval s.graph c.args.interval ∷ []) ≡ true) (sym (same c))
    c.requires.exclusive

next_is : (c : After-prepare_cut) → c.next_interval-next.result ≡ next_interval (graph_of c.self.inside.locks.graph) c.args.interval
next_is c = c.next_interval-next.ensures

pub merge-requires-clause-act : goal.merge-requires-clause-act
merge-requires-clause-act c = let at = (goal.at.merge-requires-clause-act c).After-prepare_cut in
    may_act c.self.inside.locks.graph c.prepare_cut.new.self (ready at).law c.args.t.slot
    (ap (λ (s : State). status_of s c.args.t.slot) (same at) ∙ c.requires.acting.active)

pub merge-requires-clause-left : goal.merge-requires-clause-left
merge-requires-clause-left c = let at = (goal.at.merge-requires-clause-left c).After-prepare_cut in
    subst (IsLeftAloneTo (state_in c.self.inside.locks.graph c.prepare_cut.new.self) c.args.t.slot) (sym (next_is at))
    (from_state at (merge_left (roomy at) (ready at).safe c.args.t.slot c.args.interval (free at) (exclusive at)))
  where
    from_state : (c : After-prepare_cut) → IsLeftAloneTo (state_of (view_of (roomy c))) c.args.t.slot
        (next_interval (graph_of c.self.inside.locks.graph) c.args.interval) → IsLeftAloneTo (state_in c.self.inside.locks.graph c.prepare_cut.new.self)
        c.args.t.slot (next_interval (graph_of c.self.inside.locks.graph) c.args.interval)
    from_state c x = record { live = x.live; holding = x.holding; alone = x.alone }

pub merge-requires-clause-differ : goal.merge-requires-clause-differ
merge-requires-clause-differ c = let at = (goal.at.merge-requires-clause-differ c).After-prepare_cut in
    ap (same_node c.args.interval) (next_is at) ∙ merge_differ (roomy at) (ready at).safe c.args.t.slot c.args.interval (free at) (exclusive at)

pub merge-requires-clause-apart : goal.merge-requires-clause-apart
merge-requires-clause-apart c = let at = (goal.at.merge-requires-clause-apart c).After-prepare_cut in
    ap (λ n. count_by (same_node n) (parents_of (graph_of c.self.inside.locks.graph) n)) (next_is at)
    ∙ merge_apart (roomy at) (ready at).safe c.args.t.slot c.args.interval (free at) (exclusive at)

pub merge-requires-clause-few : goal.merge-requires-clause-few
merge-requires-clause-few c = let at = (goal.at.merge-requires-clause-few c).After-prepare_cut in λ u.
    subst (λ n. held_children (state_in c.self.inside.locks.graph c.prepare_cut.new.self) u c.args.interval
    + held_children (state_in c.self.inside.locks.graph c.prepare_cut.new.self) u n < 2 ^ 32) (sym (next_is at))
    (merge_few (roomy at) (ready at).safe c.args.t.slot c.args.interval (free at) (exclusive at) u)

-- the ledger and the graph were called

module _ (c : After-prepare_cut) (l : Ledger) (v : View) where
  abbrev next : NodeId
  next = c.next_interval-next.result

  abbrev before : State
  before = state_in c.self.inside.locks.graph c.prepare_cut.new.self

  abbrev made : NodeId → Type 0
  made n = state_in c.self.inside.locks.graph l ≡ departed before (λ q. same_node q n) (graph_of c.self.inside.locks.graph)

  abbrev counts : NodeId → Type 0
  counts n = (u : ℕ) (q : NodeId) → counted_by l.lists.items u q
      + (if u == c.args.t.slot then count_by (same_node q) (parents_of (graph_of c.self.inside.locks.graph) n) else 0)
      + (if same_node q n then held_children before u n else 0)
      ≡ held_children before u q + (if same_node q c.args.interval then held_children before u n else 0)

  stand : made next → graph_of v ≡ merge (graph_of c.self.inside.locks.graph) c.args.interval → AreSound l
      → ((u : ℕ) → Agrees (state_in c.self.inside.locks.graph l) l.lists.items u) → counts next → MayStand (roomy c) v l
  stand is graph fit agree all =
      stands_merged (roomy c) (ready c).safe c.args.t.slot c.args.interval (free c) (exclusive c) v graph l (subst made (next_is c) is) fit agree
      (subst counts (next_is c) all)

  state : made next → graph_of v ≡ merge (graph_of c.self.inside.locks.graph) c.args.interval → with_locks (roomy c) (state_in v l)
      ≡ merged_by (state_of c.args.self.now) (next_interval (state_of c.args.self.now).graph c.args.interval)
      (merge (state_of c.args.self.now).graph c.args.interval)
  state is graph =
      state_merged (roomy c) (ready c).safe c.args.t.slot c.args.interval (free c) (exclusive c) v graph l (subst made (next_is c) is)
      ∙ ap (λ (s : State). merged_by s (next_interval s.graph c.args.interval) (merge s.graph c.args.interval)) (same c)

  told_all : made next → graph_of v ≡ merge (graph_of c.self.inside.locks.graph) c.args.interval → (list : Told)
      → TellsGone before next c.args.notices.now.items list → list ≡ told (state_of c.args.self.now) (with_locks (roomy c) (state_in v l))
  told_all is graph list tells =
      told_merged (roomy c) (ready c).safe c.args.t.slot c.args.interval (free c) (exclusive c) v graph l (subst made (next_is c) is) list
      (subst (λ n. TellsGone (state_of (view_of (roomy c))) n [] list) (next_is c)
      (subst (λ (xs : Told). TellsGone (state_of (view_of (roomy c))) next xs list) c.requires.empty tells))
      ∙ ap (λ (x : State). told x (with_locks (roomy c) (state_in v l))) (same c)

pub invariant_of-self-2 : goal.invariant_of-self-2
invariant_of-self-2 c =
    (stand (goal.at.invariant_of-self-2 c).After-prepare_cut c.merge.new.self c.merge_unrefused.new.self c.merge.ensures.state c.merge_unrefused.ensures
    c.merge.ensures.sound c.merge.ensures.agree c.merge.ensures.counts).safe

pub invariant_of-locks-2 : goal.invariant_of-locks-2
invariant_of-locks-2 c =
    (stand (goal.at.invariant_of-locks-2 c).After-prepare_cut c.merge.new.self c.merge_unrefused.new.self c.merge.ensures.state c.merge_unrefused.ensures
    c.merge.ensures.sound c.merge.ensures.agree c.merge.ensures.counts).law

pub returns-clause-state : goal.returns-clause-state
returns-clause-state c =
    state (goal.at.returns-clause-state c).After-prepare_cut c.merge.new.self c.merge_unrefused.new.self c.merge.ensures.state c.merge_unrefused.ensures

pub returns-clause-told : goal.returns-clause-told
returns-clause-told c =
    told_all (goal.at.returns-clause-told c).After-prepare_cut c.merge.new.self c.merge_unrefused.new.self c.merge.ensures.state c.merge_unrefused.ensures
    c.merge.new.told.items c.merge.ensures.tells

pub returns-clause-orders : goal.returns-clause-orders
returns-clause-orders c =
    orders_of c.self.inside c.self.view_is
    (kept_then c.prepare_cut.ensures.kept.lists (record { each = λ u. (c.merge.ensures.orders.each u).places })) refl
