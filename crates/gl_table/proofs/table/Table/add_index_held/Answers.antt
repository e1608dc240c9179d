use Rattle.gl_table.proofs.Words.{◌∙◌, ◌≡◌, Active, ap, AreExact, first_not_ix, graph_of, Inside, IsPrepared, Ledger, NodeId, None, Option, refl}
use Rattle.gl_table.proofs.Words.{Refusal, Refuses, Some, State, state_in, state_of, status_of, subst, sym, TableView, view_of, with_grant}
use Rattle.gl_table.proofs.Words.{with_graph, X, ℕ}
use Rattle.gl_table.proofs.Words.{NL, true}
use Rattle.gl_graph.specs.Graph.{is_record_of}
use Rattle.gl_graph.specs.Over.{IsIndexOver, over_refusal}
use Rattle.gl_table.proofs.calls.Dropping.{index_fresh, stands_indexed, stands_placed_index, state_indexed}
use Rattle.gl_table.proofs.calls.Records.{same_state, stands_roomy}
use Rattle.gl_table.proofs.calls.Stands.{may_act, MayStand, put}
use Rattle.gl_table.proofs.calls.Orders.{orders_of}
use Rattle.gl_table.proofs.inside.Places.{kept_then}
use Rattle.gl_table.proofs.table.Table.add_index_held.Goals.{After-add_index_unrefused, After-prepare}
use Rattle.gl_table.proofs.table.Table.add_index_held.Goals as goal

-- room was made

then : (c : After-prepare) → MayStand c.self.inside c.self.inside.locks.graph c.prepare.new.self
then c = stands_roomy c.self.inside c.self.invariant c.prepare.new.self c.prepare.ensures.kept

pub invariant_of-self : goal.invariant_of-self
invariant_of-self c = (then (goal.at.invariant_of-self c).After-prepare).safe

pub invariant_of-locks : goal.invariant_of-locks
invariant_of-locks c = (then (goal.at.invariant_of-locks c).After-prepare).law

ready : (c : After-add_index_unrefused) → MayStand c.self.inside c.self.inside.locks.graph c.prepare.new.self
ready c = stands_roomy c.self.inside c.self.invariant c.prepare.new.self c.prepare.ensures.kept

abbrev roomy : After-add_index_unrefused → Inside
roomy c = put c.self.inside c.self.inside.locks.graph c.prepare.new.self (ready c).law

same : (c : After-add_index_unrefused) → state_of (view_of (roomy c)) ≡ state_of c.args.self.now
same c = same_state c.self.inside c.self.invariant c.prepare.new.self c.prepare.ensures.kept ∙ ap (λ (v : TableView). state_of v) c.self.view_is

-- memory alone can refuse the index
free : (c : After-add_index_unrefused) → over_refusal
    (graph_of c.self.inside.locks.graph) c.args.parents.now c.args.file c.args.bounds.now c.args.records.now c.args.keys.now ≡ None
free c = subst (λ (v : TableView). over_refusal
    (state_of v).graph c.args.parents.now c.args.file c.args.bounds.now c.args.records.now c.args.keys.now ≡ None) (sym c.self.view_is)
    c.requires.free

-- nobody holds a record
unheld : (c : After-add_index_unrefused) (u : ℕ) (r : NodeId) → is_record_of (graph_of c.self.inside.locks.graph) c.args.file r ≡ true
    → (state_of (view_of (roomy c))).held u r ≡ NL
unheld c u r rec =
    ap (λ (s : State). s.held u r) (same c)
    ∙ c.requires.unheld u r (ap (λ (v : TableView). is_record_of (state_of v).graph c.args.file r) (sym c.self.view_is) ∙ rec)

-- the graph was called for the index
asked : (c : After-add_index_unrefused) → MayStand (roomy c) c.add_index_unrefused.new.self c.prepare.new.self
asked c =
    stands_indexed (roomy c) (ready c).safe c.args.parents.now c.args.file c.args.bounds.now
    c.args.records.now c.args.keys.now (free c) (unheld c) c.add_index_unrefused.new.self
    c.add_index_unrefused.result
    (subst (λ (o : Option Refusal). Refuses o c.add_index_unrefused.result) (sym (free c)) c.add_index_unrefused.ensures.memory)
    c.add_index_unrefused.ensures.made
    c.add_index_unrefused.ensures.err

pub invariant_of-locks-in-Break-branch-2 : goal.invariant_of-locks-in-Break-branch-2
invariant_of-locks-in-Break-branch-2 c = (asked (goal.at.invariant_of-locks-in-Break-branch-2 c).After-add_index_unrefused).law

pub invariant_of-self-in_err-index : goal.invariant_of-self-in_err-index
invariant_of-self-in_err-index c = (asked (goal.at.invariant_of-self-in_err-index c).After-add_index_unrefused).safe

pub place-requires-clause-act : goal.place-requires-clause-act
place-requires-clause-act c = let at = (goal.at.place-requires-clause-act c).After-add_index_unrefused in
    may_act _ c.prepare.new.self (asked at).law c.args.t.slot (ap (λ (s : State). status_of s c.args.t.slot) (same at) ∙ c.requires.acting.active)

pub place-requires-clause-fresh : goal.place-requires-clause-fresh
place-requires-clause-fresh c = let at = (goal.at.place-requires-clause-fresh c).After-add_index_unrefused in
    index_fresh (roomy at) (ready at).safe c.args.parents.now c.args.file c.args.bounds.now
    c.args.records.now c.args.keys.now (free at) (unheld at) c.add_index_unrefused.new.self c.in_ok-index.index
    c.in_ok-index.ensures.made

pub place-requires-clause-ready : goal.place-requires-clause-ready
place-requires-clause-ready c = subst (λ (k : ℕ). IsPrepared c.prepare.new.self c.args.t.slot k X c.in_ok-prepared.prepared)
    (c.next_key.ensures ∙ sym c.in_ok-index.ensures.key) c.in_ok-prepared.ensures.ready

-- the slot holds it
placed : (c : After-add_index_unrefused) (n : NodeId)
    → IsIndexOver (graph_of c.self.inside.locks.graph) (graph_of c.add_index_unrefused.new.self) n c.args.parents.now c.args.file c.args.bounds.now
    c.args.records.now c.args.keys.now →
    (l : Ledger)
    → state_in c.add_index_unrefused.new.self l ≡ with_grant (state_in c.add_index_unrefused.new.self c.prepare.new.self) c.args.t.slot n X
    → AreExact c.add_index_unrefused.new.self l → MayStand (roomy c) c.add_index_unrefused.new.self l
placed c n born l is exact =
    stands_placed_index (roomy c) (ready c).safe c.args.parents.now c.args.file c.args.bounds.now
    c.args.records.now c.args.keys.now (free c) (unheld c) c.add_index_unrefused.new.self n born
    c.args.t.slot l is
    (subst (λ (s : State). status_of s c.args.t.slot ≡ Some Active) (sym (same c)) c.requires.acting.active)
    (subst (λ (s : State). first_not_ix (s.held c.args.t.slot) c.args.parents.now ≡ None) (sym (same c)) c.requires.writable) exact

pub invariant_of-self-2 : goal.invariant_of-self-2
invariant_of-self-2 c = (placed (goal.at.invariant_of-self-2 c).After-add_index_unrefused c.in_ok-index.index c.in_ok-index.ensures.made c.place.new.self
    c.place.ensures.state c.place.ensures.exact).safe

pub invariant_of-locks-2 : goal.invariant_of-locks-2
invariant_of-locks-2 c = (placed (goal.at.invariant_of-locks-2 c).After-add_index_unrefused c.in_ok-index.index c.in_ok-index.ensures.made c.place.new.self
    c.place.ensures.state c.place.ensures.exact).law

pub returns-clause-state : goal.returns-clause-state
returns-clause-state c = let at = (goal.at.returns-clause-state c).After-add_index_unrefused in
    state_indexed (roomy at) (ready at).safe c.args.parents.now c.args.file c.args.bounds.now
    c.args.records.now c.args.keys.now (free at) (unheld at) c.add_index_unrefused.new.self c.in_ok-index.index
    c.in_ok-index.ensures.made
    c.args.t.slot c.place.new.self c.place.ensures.state
    ∙ ap (λ (s : State). with_grant (with_graph s (graph_of c.add_index_unrefused.new.self)) c.args.t.slot c.in_ok-index.index X) (same at)

pub returns-clause-orders : goal.returns-clause-orders
returns-clause-orders c = orders_of c.self.inside c.self.view_is (kept_then c.prepare.ensures.kept.lists c.place.ensures.orders) refl
