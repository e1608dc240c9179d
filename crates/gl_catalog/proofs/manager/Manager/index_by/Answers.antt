use Rattle.std.specs.Prelude.{Err, None, Option, Result, ◌∷◌, ◌≡◌, ◌+◌}
use Rattle.std.proofs.Common.{ap, refl, rules, subst, sym, ◌∙◌}
use Rattle.std.proofs.lemmas.Result.{err_from_is_err_and}
use Rattle.gl_modes.specs.declared.node.NodeId.{NodeId}
use Rattle.gl_modes.specs.declared.refusal.Refusal.{Refusal}
use Rattle.gl_graph.specs.Refusals.{Refuses, first_refusal}
use Rattle.gl_graph.proofs.Unrefused.{verdict_ok}
use Rattle.gl_model.specs.Calls.{index_by_tests}
use Rattle.gl_model.proofs.law.Schema.{over_unheld}
use Rattle.gl_model.specs.State.{State, counting}
use Rattle.gl_steps.proofs.SchemaKeeps.{MayIndex, may_index}
use Rattle.gl_steps.specs.declared.command.Command.TheVariants as command
use Rattle.gl_steps.specs.Tests.{refusal_of}
use Rattle.gl_table.proofs.calls.Locking.{test_refused, unrefused}
use Rattle.gl_table.specs.Table.{state_of as table_state}
use Rattle.gl_catalog.specs.Manager.{ManagerView, state_of}
use Rattle.gl_catalog.specs.Replies.{CallSteps, made}
use Rattle.gl_catalog.specs.Sound.{view_of}
use Rattle.gl_catalog.proofs.Carried.{refused_step}
use Rattle.gl_catalog.proofs.Completed.{quiet_completed}
use Rattle.gl_catalog.proofs.Managed.{managed_err_or_memory, managed_ok}
use Rattle.gl_catalog.proofs.Uncounted.{raised_by_none}
use Rattle.gl_catalog.proofs.manager.Manager.index_by.Goals.{In_ok-check_index_by}
use Rattle.gl_catalog.proofs.manager.Manager.index_by.Goals as goal

pub returns-in_err-check_index_by-clause-step : goal.returns-in_err-check_index_by-clause-step
returns-in_err-check_index_by-clause-step c =
    let exit = err_from_is_err_and c.from_residual-in_err-check_index_by.result c.from_residual-in_err-check_index_by.ensures.1 in
    let s : State = state_of c.args.self.now in
    let refused = ap (λ (o : Option Refusal). first_refusal
    (o ∷ index_by_tests s c.args.t c.args.parents.now c.args.file c.args.bounds.now c.args.records.now c.args.keys.now))
    (verdict_ok _ tt c.in_ok-check_count.ensures) ∙ test_refused _ _ c.in_err-check_index_by.ensures in
    rw (exit.1, exit.2) (refused_step made (command.IndexBy c.args.t c.args.parents c.args.file c.args.bounds c.args.records c.args.keys) s _ refused)

-- all tests were passed
passed : (c : In_ok-check_index_by)
    → first_refusal (index_by_tests (table_state c.self.inside.table) c.args.t c.args.parents.now c.args.file c.args.bounds.now c.args.records.now
    c.args.keys.now) ≡ None
passed c = subst (λ (v : ManagerView). first_refusal (index_by_tests
    (state_of v) c.args.t c.args.parents.now c.args.file c.args.bounds.now c.args.records.now c.args.keys.now) ≡ None)
    (sym c.self.view_is) (verdict_ok _ _ c.in_ok-check_index_by.ensures)

-- what the tests leave
may : (c : In_ok-check_index_by)
    → MayIndex (counting c.self.inside.accepted
    (table_state c.self.inside.table)) c.args.t c.args.parents.now c.args.file c.args.bounds.now c.args.records.now c.args.keys.now
may c = may_index (counting c.self.inside.accepted
    (table_state c.self.inside.table)) c.args.t c.args.parents c.args.file c.args.bounds c.args.records c.args.keys
    (subst (λ (v : ManagerView). refusal_of (state_of v)
    (command.IndexBy c.args.t c.args.parents c.args.file c.args.bounds c.args.records c.args.keys) ≡ None) (sym c.self.view_is)
    (ap (λ (o : Option Refusal). first_refusal (o ∷ index_by_tests
    (state_of c.args.self.now) c.args.t c.args.parents.now c.args.file c.args.bounds.now c.args.records.now c.args.keys.now))
    (verdict_ok _ tt c.in_ok-check_count.ensures) ∙ verdict_ok _ _ c.in_ok-check_index_by.ensures))

pub add_index_held-requires-clause-free : goal.add_index_held-requires-clause-free
add_index_held-requires-clause-free c = (may (goal.at.add_index_held-requires-clause-free c).In_ok-check_index_by).free

pub add_index_held-requires-clause-unheld : goal.add_index_held-requires-clause-unheld
add_index_held-requires-clause-unheld c =
    let m = may (goal.at.add_index_held-requires-clause-unheld c).In_ok-check_index_by in
    over_unheld (counting c.self.inside.accepted (table_state c.self.inside.table)) c.self.invariant.lawful c.args.t.slot c.args.file c.args.records.now
    m.file m.locked m.unused

pub add_index_held-requires-clause-writable : goal.add_index_held-requires-clause-writable
add_index_held-requires-clause-writable c = (may (goal.at.add_index_held-requires-clause-writable c).In_ok-check_index_by).rule

pub returns-in_err-index-clause-step : goal.returns-in_err-index-clause-step
returns-in_err-index-clause-step c =
    let at = (goal.at.returns-in_err-index-clause-step c).In_ok-check_index_by in
    let is : c.from_residual-in_err-index.result ≡ Err c.in_err-index.field-0.0 = search rules in
    subst (λ (r : Result NodeId Refusal). CallSteps (state_of c.args.self.now)
    (command.IndexBy c.args.t c.args.parents c.args.file c.args.bounds c.args.records c.args.keys) made r (counting c.self.inside.accepted
    (table_state c.add_index_held.new.self)))
    (sym is) (managed_err_or_memory made
    (command.IndexBy c.args.t c.args.parents c.args.file c.args.bounds c.args.records c.args.keys) c.self.inside.table c.self.inside.accepted
    c.args.self.now c.self.view_is
    (index_by_tests (table_state c.self.inside.table) c.args.t c.args.parents.now c.args.file c.args.bounds.now c.args.records.now
    c.args.keys.now) refl c.in_err-index.field-0.0
    c.add_index_held.new.self c.in_ok-check_count.ensures (λ _. refl) (subst (λ (o : Option Refusal). Refuses {T = NodeId} o
    (Err c.in_err-index.field-0.0)) (sym (passed at)) c.in_err-index.ensures.refuses.memory) c.in_err-index.ensures.refuses.err)

pub returns-clause-step : goal.returns-clause-step
returns-clause-step c =
    let at = (goal.at.returns-clause-step c).In_ok-check_index_by in
    managed_ok made (command.IndexBy c.args.t c.args.parents c.args.file c.args.bounds c.args.records c.args.keys) c.self.inside.table
    c.self.inside.accepted c.args.self.now
    c.self.view_is (index_by_tests (table_state c.self.inside.table) c.args.t c.args.parents.now c.args.file c.args.bounds.now c.args.records.now
    c.args.keys.now) refl
    c.in_ok-index.index c.add_index_held.new.self c.in_ok-check_count.ensures (unrefused _ _ (passed at)) refl
    (c.in_ok-index.index, c.in_ok-index.ensures.made, refl, refl, ap (counting c.self.inside.accepted) c.in_ok-index.ensures.state)

pub returns-clause-completes : goal.returns-clause-completes
returns-clause-completes c =
    quiet_completed (view_of c.self.inside) c.args.self.now
    (record { table = c.add_index_held.new.self; accepted = c.self.inside.accepted + 1; counters = c.self.inside.counters }) c.self.view_is c.self.invariant
    (command.IndexBy c.args.t c.args.parents c.args.file c.args.bounds c.args.records c.args.keys) refl c.in_ok-index.ensures.orders
    (made c.in_ok-index.index) (returns-clause-step c)
    (c.in_ok-index.ensures.deadlock ∙ ap (λ (v : ManagerView). v.table.deadlock) c.self.view_is) refl raised_by_none
