use Rattle.std.proofs.Common.{ap, sym, ◌∙◌, rules, subst}
use Rattle.std.specs.Prelude.{Option, Err, ◌≡◌}
use Rattle.gl_modes.specs.declared.refusal.Refusal.{Refusal}
use Rattle.gl_graph.proofs.Unrefused.{verdict_ok}
use Rattle.gl_graph.specs.Refusals.{births_worn, first_refusal, verdict}
use Rattle.gl_graph.specs.View.{View, graph_of}
use Rattle.gl_model.specs.State.{State}
use Rattle.gl_table.proofs.calls.Locking.{test_refused}
use Rattle.gl_catalog.specs.Manager.{ManagerView, state_of}
use Rattle.gl_catalog.proofs.Schemas.{acting_lives, bounds, bounds_left, exclusive_refused, file_held}
use Rattle.gl_catalog.proofs.Schemas.{place_refused, placed_file, places, rule_refused, taken_refused}
use Rattle.gl_catalog.proofs.manager.Manager.check_index_by.Goals as goal

pub returns-in_err-check_index_place : goal.returns-in_err-check_index_place
returns-in_err-check_index_place c =
    let s : State = state_of c.args.self.now in
    let graph = c.graph-graph.ensures ∙ ap (λ (v : ManagerView). v.table.graph) c.self.view_is in
    let births = ap (λ (v : View). births_worn (graph_of v)) (sym graph) ∙ sym c.worn.ensures ∙ c.if-worn.false in
    let active = verdict_ok _ _ c.in_ok-check_active.ensures in
    let placed : Err c.in_err-check_index_place.field-0.0 ≡ verdict (first_refusal (places s.graph c.args.parents.now c.args.file)) =
    c.in_err-check_index_place.ensures
    ∙ ap (λ (v : View). verdict (first_refusal (places (graph_of v) c.args.parents.now c.args.file))) graph in
    subst (λ (o : Option Refusal). c.from_residual-in_err-check_index_place.result ≡ verdict o)
    (sym (place_refused s c.args.t c.args.parents.now c.args.file c.args.bounds.now c.args.records.now c.args.keys.now births active
    c.in_err-check_index_place.field-0.0 (test_refused _ _ placed))) (search rules)

pub may_index-requires-clause-txn : goal.may_index-requires-clause-txn
may_index-requires-clause-txn c = acting_lives (state_of c.args.self.now) c.args.t (verdict_ok _ _ c.in_ok-check_active.ensures)

pub may_index-requires-clause-file : goal.may_index-requires-clause-file
may_index-requires-clause-file c =
    let s : State = state_of c.args.self.now in
    let graph = c.graph-graph.ensures ∙ ap (λ (v : ManagerView). v.table.graph) c.self.view_is in
    let placed = verdict_ok _ _ (c.in_ok-check_index_place.ensures
    ∙ ap (λ (v : View). verdict (first_refusal (places (graph_of v) c.args.parents.now c.args.file))) graph) in
    placed_file s.graph c.args.parents.now c.args.file placed

pub returns-then-not-may_index : goal.returns-then-not-may_index
returns-then-not-may_index c =
    let s : State = state_of c.args.self.now in
    let graph = c.graph-graph.ensures ∙ ap (λ (v : ManagerView). v.table.graph) c.self.view_is in
    let births = ap (λ (v : View). births_worn (graph_of v)) (sym graph) ∙ sym c.worn.ensures ∙ c.if-worn.false in
    let active = verdict_ok _ _ c.in_ok-check_active.ensures in
    let placed = verdict_ok _ _ (c.in_ok-check_index_place.ensures
    ∙ ap (λ (v : View). verdict (first_refusal (places (graph_of v) c.args.parents.now c.args.file))) graph) in
    ap verdict (sym (exclusive_refused s c.args.t c.args.parents.now c.args.file c.args.bounds.now c.args.records.now c.args.keys.now births active placed
    (sym c.may_index.ensures ∙ c.if-not-may_index.true)))

pub returns-in_err-check_writable : goal.returns-in_err-check_writable
returns-in_err-check_writable c =
    let s : State = state_of c.args.self.now in
    let graph = c.graph-graph.ensures ∙ ap (λ (v : ManagerView). v.table.graph) c.self.view_is in
    let births = ap (λ (v : View). births_worn (graph_of v)) (sym graph) ∙ sym c.worn.ensures ∙ c.if-worn.false in
    let active = verdict_ok _ _ c.in_ok-check_active.ensures in
    let placed = verdict_ok _ _ (c.in_ok-check_index_place.ensures
    ∙ ap (λ (v : View). verdict (first_refusal (places (graph_of v) c.args.parents.now c.args.file))) graph) in
    subst (λ (o : Option Refusal). c.from_residual-in_err-check_writable.result ≡ verdict o)
    (sym (rule_refused s c.args.t c.args.parents.now c.args.file c.args.bounds.now c.args.records.now c.args.keys.now births active placed
    (sym c.may_index.ensures ∙ c.if-not-may_index.false) c.in_err-check_writable.field-0.0 (test_refused _ _ c.in_err-check_writable.ensures))) (search rules)

pub is_taken-requires-clause-txn : goal.is_taken-requires-clause-txn
is_taken-requires-clause-txn c = acting_lives (state_of c.args.self.now) c.args.t (verdict_ok _ _ c.in_ok-check_active.ensures)

pub is_taken-requires-clause-held : goal.is_taken-requires-clause-held
is_taken-requires-clause-held c =
    file_held (state_of c.args.self.now) c.args.t.slot c.args.file c.args.records.now (sym c.may_index.ensures ∙ c.if-not-may_index.false)

pub returns-then-is_taken : goal.returns-then-is_taken
returns-then-is_taken c =
    let s : State = state_of c.args.self.now in
    let graph = c.graph-graph.ensures ∙ ap (λ (v : ManagerView). v.table.graph) c.self.view_is in
    let births = ap (λ (v : View). births_worn (graph_of v)) (sym graph) ∙ sym c.worn.ensures ∙ c.if-worn.false in
    let active = verdict_ok _ _ c.in_ok-check_active.ensures in
    let placed = verdict_ok _ _ (c.in_ok-check_index_place.ensures
    ∙ ap (λ (v : View). verdict (first_refusal (places (graph_of v) c.args.parents.now c.args.file))) graph) in
    ap verdict (sym (taken_refused s c.args.t c.args.parents.now c.args.file c.args.bounds.now c.args.records.now c.args.keys.now births active placed
    (sym c.may_index.ensures ∙ c.if-not-may_index.false) (verdict_ok _ _ c.in_ok-check_writable.ensures) (sym c.is_taken.ensures ∙ c.if-is_taken.true)))

pub returns : goal.returns
returns c =
    let s : State = state_of c.args.self.now in
    let graph = c.graph-graph.ensures ∙ ap (λ (v : ManagerView). v.table.graph) c.self.view_is in
    let births = ap (λ (v : View). births_worn (graph_of v)) (sym graph) ∙ sym c.worn.ensures ∙ c.if-worn.false in
    let active = verdict_ok _ _ c.in_ok-check_active.ensures in
    let placed = verdict_ok _ _ (c.in_ok-check_index_place.ensures
    ∙ ap (λ (v : View). verdict (first_refusal (places (graph_of v) c.args.parents.now c.args.file))) graph) in
    c.check_index_over.ensures
    ∙ ap (λ (v : View). verdict (first_refusal (bounds (graph_of v) c.args.file c.args.bounds.now c.args.records.now c.args.keys.now))) graph
    ∙ ap verdict (sym (bounds_left s c.args.t c.args.parents.now c.args.file c.args.bounds.now c.args.records.now c.args.keys.now births active placed
    (sym c.may_index.ensures ∙ c.if-not-may_index.false) (verdict_ok _ _ c.in_ok-check_writable.ensures)
    (sym c.is_taken.ensures ∙ c.if-is_taken.false)))
