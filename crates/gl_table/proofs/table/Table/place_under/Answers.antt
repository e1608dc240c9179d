use Rattle.gl_table.proofs.Words.{◌∙◌, ◌≡◌, Active, ap, AreExact, first_not_ix, graph_of, Inside, IsBorn, IsPrepared, Ledger, NodeId, None, Option, Rec}
use Rattle.gl_table.proofs.Words.{record_parents, record_refusal, refl, Refusal, Refuses, Some, State, state_in, state_of, status_of, subst, sym, TableView}
use Rattle.gl_table.proofs.Words.{view_of, with_grant, with_graph, X, ℕ}
use Rattle.gl_table.proofs.calls.Records.{record_fresh, same_state, stands_grown, stands_placed, stands_roomy, state_placed}
use Rattle.gl_table.proofs.calls.Stands.{may_act, MayStand, put}
use Rattle.gl_table.proofs.calls.Orders.{orders_of}
use Rattle.gl_table.proofs.inside.Places.{kept_then}
use Rattle.gl_table.proofs.table.Table.place_under.Goals.{After-add_record_under, After-prepare}
use Rattle.gl_table.proofs.table.Table.place_under.Goals as goal

-- room was made

then : (c : After-prepare) → MayStand c.self.inside c.self.inside.locks.graph c.prepare.new.self
then c = stands_roomy c.self.inside c.self.invariant c.prepare.new.self c.prepare.ensures.kept

pub invariant_of-self : goal.invariant_of-self
invariant_of-self c = (then (goal.at.invariant_of-self c).After-prepare).safe

pub invariant_of-locks : goal.invariant_of-locks
invariant_of-locks c = (then (goal.at.invariant_of-locks c).After-prepare).law

ready : (c : After-add_record_under) → MayStand c.self.inside c.self.inside.locks.graph c.prepare.new.self
ready c = stands_roomy c.self.inside c.self.invariant c.prepare.new.self c.prepare.ensures.kept

abbrev roomy : After-add_record_under → Inside
roomy c = put c.self.inside c.self.inside.locks.graph c.prepare.new.self (ready c).law

same : (c : After-add_record_under) → state_of (view_of (roomy c)) ≡ state_of c.args.self.now
same c = same_state c.self.inside c.self.invariant c.prepare.new.self c.prepare.ensures.kept ∙ ap (λ (v : TableView). state_of v) c.self.view_is

-- memory alone can refuse the record
free : (c : After-add_record_under) → record_refusal (graph_of c.self.inside.locks.graph) c.args.file c.args.keys.now ≡ None
free c = subst (λ (v : TableView). record_refusal (state_of v).graph c.args.file c.args.keys.now ≡ None) (sym c.self.view_is) c.requires.free.free

-- the graph was called for the record
asked : (c : After-add_record_under) → MayStand (roomy c) c.add_record_under.new.self c.prepare.new.self
asked c =
    stands_grown (roomy c) (ready c).safe c.args.file c.args.keys.now (free c) c.add_record_under.new.self c.add_record_under.result
    (subst (λ (o : Option Refusal). Refuses o c.add_record_under.result) (sym (free c)) c.add_record_under.ensures.memory) c.add_record_under.ensures.made
    c.add_record_under.ensures.err

pub invariant_of-locks-in-Break-branch-2 : goal.invariant_of-locks-in-Break-branch-2
invariant_of-locks-in-Break-branch-2 c = (asked (goal.at.invariant_of-locks-in-Break-branch-2 c).After-add_record_under).law

pub add_record_under-requires-clause-free : goal.add_record_under-requires-clause-free
add_record_under-requires-clause-free c = subst (λ (v : TableView). record_refusal (state_of v).graph c.args.file c.args.keys.now ≡ None) (sym c.self.view_is)
    c.requires.free.free

pub add_record_under-requires-clause-parents : goal.add_record_under-requires-clause-parents
add_record_under-requires-clause-parents c = c.requires.free.parents
    ∙ ap (λ (v : TableView). record_parents (state_of v).graph c.args.file c.args.keys.now) (sym c.self.view_is)

pub invariant_of-self-in_err-rec : goal.invariant_of-self-in_err-rec
invariant_of-self-in_err-rec c = (asked (goal.at.invariant_of-self-in_err-rec c).After-add_record_under).safe

pub place-requires-clause-act : goal.place-requires-clause-act
place-requires-clause-act c = let at = (goal.at.place-requires-clause-act c).After-add_record_under in
    may_act _ c.prepare.new.self (asked at).law c.args.t.slot (ap (λ (s : State). status_of s c.args.t.slot) (same at) ∙ c.requires.acting.active)

pub place-requires-clause-fresh : goal.place-requires-clause-fresh
place-requires-clause-fresh c = let at = (goal.at.place-requires-clause-fresh c).After-add_record_under in
    record_fresh (roomy at) (ready at).safe c.args.file c.args.keys.now (free at) c.add_record_under.new.self c.in_ok-rec.rec c.in_ok-rec.ensures.made

pub place-requires-clause-ready : goal.place-requires-clause-ready
place-requires-clause-ready c = subst (λ (k : ℕ). IsPrepared c.prepare.new.self c.args.t.slot k X c.in_ok-prepared.prepared)
    (c.next_key.ensures ∙ sym c.in_ok-rec.ensures.key) c.in_ok-prepared.ensures.ready

-- the slot holds it
placed : (c : After-add_record_under) (n : NodeId)
    → IsBorn (graph_of c.self.inside.locks.graph) (graph_of c.add_record_under.new.self) n (Rec c.args.keys.now)
    (record_parents (graph_of c.self.inside.locks.graph) c.args.file c.args.keys.now) → (l : Ledger)
    → state_in c.add_record_under.new.self l ≡ with_grant (state_in c.add_record_under.new.self c.prepare.new.self) c.args.t.slot n X
    → AreExact c.add_record_under.new.self l → MayStand (roomy c) c.add_record_under.new.self l
placed c n born l is exact =
    stands_placed (roomy c) (ready c).safe c.args.file c.args.keys.now (free c) c.add_record_under.new.self n born c.args.t.slot l is
    (subst (λ (s : State). status_of s c.args.t.slot ≡ Some Active) (sym (same c)) c.requires.acting.active)
    (subst (λ (s : State). first_not_ix (s.held c.args.t.slot) (record_parents s.graph c.args.file c.args.keys.now) ≡ None) (sym (same c))
    (ap (first_not_ix ((state_of c.args.self.now).held c.args.t.slot)) (sym c.requires.free.parents) ∙ c.requires.writable)) exact

pub invariant_of-self-2 : goal.invariant_of-self-2
invariant_of-self-2 c = (placed (goal.at.invariant_of-self-2 c).After-add_record_under c.in_ok-rec.rec c.in_ok-rec.ensures.made c.place.new.self
    c.place.ensures.state c.place.ensures.exact).safe

pub invariant_of-locks-2 : goal.invariant_of-locks-2
invariant_of-locks-2 c = (placed (goal.at.invariant_of-locks-2 c).After-add_record_under c.in_ok-rec.rec c.in_ok-rec.ensures.made c.place.new.self
    c.place.ensures.state c.place.ensures.exact).law

pub returns-clause-state : goal.returns-clause-state
returns-clause-state c = let at = (goal.at.returns-clause-state c).After-add_record_under in
    state_placed (roomy at) (ready at).safe c.args.file c.args.keys.now (free at) c.add_record_under.new.self c.in_ok-rec.rec c.in_ok-rec.ensures.made
    c.args.t.slot c.place.new.self c.place.ensures.state
    ∙ ap (λ (s : State). with_grant (with_graph s (graph_of c.add_record_under.new.self)) c.args.t.slot c.in_ok-rec.rec X) (same at)

pub returns-clause-orders : goal.returns-clause-orders
returns-clause-orders c = orders_of c.self.inside c.self.view_is (kept_then c.prepare.ensures.kept.lists c.place.ensures.orders) refl
