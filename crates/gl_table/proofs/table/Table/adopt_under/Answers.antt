use Rattle.gl_table.proofs.Words.{◌∙◌, ◌≡◌, Active, ap, AreExact, graph_of, Inside, IsBorn, IsPrepared, Ledger, marked, NodeId, None, Option, Rec}
use Rattle.gl_table.proofs.Words.{record_parents, record_refusal, refl, Refusal, Refuses, rule_refusal, Some, State, state_in, state_of, status_of, subst, sym}
use Rattle.gl_table.proofs.Words.{TableView, View, view_of, with_grant, with_graph, ℕ}
use Rattle.gl_table.proofs.calls.Adopting.{adopted_fresh, file_stands, stands_adopted, stands_locked, state_adopted}
use Rattle.gl_table.proofs.calls.Records.{same_state, stands_grown, stands_roomy}
use Rattle.gl_table.proofs.calls.Stands.{may_act, MayStand, put, with_locks}
use Rattle.gl_table.proofs.calls.Orders.{orders_of}
use Rattle.gl_table.proofs.inside.Places.{kept_then}
use Rattle.gl_table.proofs.table.Table.adopt_under.Goals.{After-add_record_under, After-prepare}
use Rattle.gl_table.proofs.table.Table.adopt_under.Goals as goal

-- room was made

then : (c : After-prepare) → MayStand c.self.inside c.self.inside.locks.graph c.prepare.new.self
then c = stands_roomy c.self.inside c.self.invariant c.prepare.new.self c.prepare.ensures.kept

pub invariant_of-self : goal.invariant_of-self
invariant_of-self c = (then (goal.at.invariant_of-self c).After-prepare).safe

pub invariant_of-locks : goal.invariant_of-locks
invariant_of-locks c = (then (goal.at.invariant_of-locks c).After-prepare).law

ready : (c : After-add_record_under) → MayStand c.self.inside c.self.inside.locks.graph c.prepare.new.self
ready c = stands_roomy c.self.inside c.self.invariant c.prepare.new.self c.prepare.ensures.kept

abbrev roomy : After-add_record_under → Inside
roomy c = put c.self.inside c.self.inside.locks.graph c.prepare.new.self (ready c).law

same : (c : After-add_record_under) → state_of (view_of (roomy c)) ≡ state_of c.args.self.now
same c = same_state c.self.inside c.self.invariant c.prepare.new.self c.prepare.ensures.kept ∙ ap (λ (v : TableView). state_of v) c.self.view_is

-- memory alone can refuse the record
free : (c : After-add_record_under) → record_refusal (graph_of c.self.inside.locks.graph) c.args.file c.args.keys.now ≡ None
free c = subst (λ (v : TableView). record_refusal (state_of v).graph c.args.file c.args.keys.now ≡ None) (sym c.self.view_is) c.requires.free.free

-- the graph was called for the record
asked : (c : After-add_record_under) → MayStand (roomy c) c.add_record_under.new.self c.prepare.new.self
asked c =
    stands_grown (roomy c) (ready c).safe c.args.file c.args.keys.now (free c) c.add_record_under.new.self c.add_record_under.result
    (subst (λ (o : Option Refusal). Refuses o c.add_record_under.result) (sym (free c)) c.add_record_under.ensures.memory) c.add_record_under.ensures.made
    c.add_record_under.ensures.err

pub invariant_of-locks-in-Break-branch-2 : goal.invariant_of-locks-in-Break-branch-2
invariant_of-locks-in-Break-branch-2 c = (asked (goal.at.invariant_of-locks-in-Break-branch-2 c).After-add_record_under).law

pub add_record_under-requires-clause-free : goal.add_record_under-requires-clause-free
add_record_under-requires-clause-free c = subst (λ (v : TableView). record_refusal (state_of v).graph c.args.file c.args.keys.now ≡ None) (sym c.self.view_is)
    c.requires.free.free

pub add_record_under-requires-clause-parents : goal.add_record_under-requires-clause-parents
add_record_under-requires-clause-parents c = c.requires.free.parents
    ∙ ap (λ (v : TableView). record_parents (state_of v).graph c.args.file c.args.keys.now) (sym c.self.view_is)

pub invariant_of-self-in_err-rec : goal.invariant_of-self-in_err-rec
invariant_of-self-in_err-rec c = (asked (goal.at.invariant_of-self-in_err-rec c).After-add_record_under).safe

pub mark_adopted-requires : goal.mark_adopted-requires
mark_adopted-requires c = let at = (goal.at.mark_adopted-requires c).After-add_record_under in
    file_stands (roomy at) (ready at).safe c.args.file c.args.keys.now (free at) c.add_record_under.new.self c.in_ok-rec.rec c.in_ok-rec.ensures.made

-- the file was marked: the record is adopted
module _ (c : After-add_record_under) (n : NodeId)
    (born : IsBorn (graph_of c.self.inside.locks.graph) (graph_of c.add_record_under.new.self) n (Rec c.args.keys.now)
    (record_parents (graph_of c.self.inside.locks.graph) c.args.file c.args.keys.now)) (v : View)
    (after : graph_of v ≡ marked (graph_of c.add_record_under.new.self) c.args.file) where
  adopts : MayStand (roomy c) v c.prepare.new.self
  adopts = stands_adopted (roomy c) (ready c).safe c.args.file c.args.keys.now (free c) c.add_record_under.new.self n born v after

  -- the slot holds it
  module _ (l : Ledger) (is : state_in v l ≡ with_grant (state_in v c.prepare.new.self) c.args.t.slot n c.args.mode) where
    placed : AreExact v l → MayStand (roomy c) v l
    placed exact =
        stands_locked (roomy c) (ready c).safe c.args.file c.args.keys.now (free c) c.add_record_under.new.self n born v after c.args.t.slot c.args.mode l is
        (subst (λ (s : State). status_of s c.args.t.slot ≡ Some Active) (sym (same c)) c.requires.acting.active) c.requires.fit
        (subst (λ (s : State). rule_refusal (s.held c.args.t.slot) (record_parents s.graph c.args.file c.args.keys.now) c.args.mode ≡ None) (sym (same c))
        (ap (λ ps. rule_refusal ((state_of c.args.self.now).held c.args.t.slot) ps c.args.mode) (sym c.requires.free.parents) ∙ c.requires.rule)) exact

    state_after : with_locks (roomy c) (state_in v l) ≡ with_grant (with_graph (state_of c.args.self.now) (graph_of v)) c.args.t.slot n c.args.mode
    state_after =
        state_adopted (roomy c) (ready c).safe c.args.file c.args.keys.now (free c) c.add_record_under.new.self n born v after c.args.t.slot c.args.mode l is
        ∙ ap (λ (s : State). with_grant (with_graph s (graph_of v)) c.args.t.slot n c.args.mode) (same c)

pub place-requires-clause-act : goal.place-requires-clause-act
place-requires-clause-act c = let at = (goal.at.place-requires-clause-act c).After-add_record_under in
    may_act _ c.prepare.new.self (adopts at c.in_ok-rec.rec c.in_ok-rec.ensures.made c.mark_adopted.new.self c.mark_adopted.ensures.marked).law
    c.args.t.slot (ap (λ (s : State). status_of s c.args.t.slot) (same at) ∙ c.requires.acting.active)

pub place-requires-clause-fresh : goal.place-requires-clause-fresh
place-requires-clause-fresh c = let at = (goal.at.place-requires-clause-fresh c).After-add_record_under in
    adopted_fresh (roomy at) (ready at).safe c.args.file c.args.keys.now (free at) c.add_record_under.new.self c.in_ok-rec.rec c.in_ok-rec.ensures.made
    c.mark_adopted.new.self c.mark_adopted.ensures.marked

pub place-requires-clause-ready : goal.place-requires-clause-ready
place-requires-clause-ready c = subst (λ (k : ℕ). IsPrepared c.prepare.new.self c.args.t.slot k c.args.mode c.in_ok-prepared.prepared)
    (c.next_key.ensures ∙ sym c.in_ok-rec.ensures.key) c.in_ok-prepared.ensures.ready

pub invariant_of-self-2 : goal.invariant_of-self-2
invariant_of-self-2 c = (placed (goal.at.invariant_of-self-2 c).After-add_record_under c.in_ok-rec.rec c.in_ok-rec.ensures.made c.mark_adopted.new.self
    c.mark_adopted.ensures.marked c.place.new.self c.place.ensures.state c.place.ensures.exact).safe

pub invariant_of-locks-2 : goal.invariant_of-locks-2
invariant_of-locks-2 c = (placed (goal.at.invariant_of-locks-2 c).After-add_record_under c.in_ok-rec.rec c.in_ok-rec.ensures.made c.mark_adopted.new.self
    c.mark_adopted.ensures.marked c.place.new.self c.place.ensures.state c.place.ensures.exact).law

pub returns-clause-state : goal.returns-clause-state
returns-clause-state c = state_after (goal.at.returns-clause-state c).After-add_record_under c.in_ok-rec.rec c.in_ok-rec.ensures.made c.mark_adopted.new.self
    c.mark_adopted.ensures.marked c.place.new.self c.place.ensures.state

pub returns-clause-orders : goal.returns-clause-orders
returns-clause-orders c = orders_of c.self.inside c.self.view_is (kept_then c.prepare.ensures.kept.lists c.place.ensures.orders) refl
