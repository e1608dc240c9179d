use Rattle.std.specs.Prelude.{Err, None, Option, Result, ◌∷◌, ◌≡◌, ◌+◌}
use Rattle.std.proofs.Common.{ap, refl, rules, subst, sym, ◌∙◌}
use Rattle.gl_modes.specs.declared.node.NodeId.{NodeId}
use Rattle.gl_modes.specs.declared.refusal.Refusal.{Refusal}
use Rattle.gl_graph.specs.Graph.{record_parents}
use Rattle.gl_graph.specs.Refusals.{Refuses, first_refusal}
use Rattle.gl_graph.proofs.Unrefused.{verdict_ok}
use Rattle.arrayvec.specs.ArrayVec.{ArrayVec}
use Rattle.gl_model.specs.Calls.{first_not_ix}
use Rattle.gl_table.specs.Table.{state_of as table_state}
use Rattle.gl_model.specs.State.{State, counting}
use Rattle.gl_table.proofs.calls.Locking.{unrefused}
use Rattle.gl_steps.specs.declared.command.Command.TheVariants as command
use Rattle.gl_catalog.specs.Manager.{ManagerView, state_of}
use Rattle.gl_catalog.specs.Replies.{CallSteps, made}
use Rattle.gl_steps.specs.Tests.{insert_tests}
use Rattle.gl_catalog.proofs.Carried.{refused_step}
use Rattle.gl_catalog.proofs.Insertions.{MayInsert, goes_none, may_insert, refused_so}
use Rattle.gl_catalog.proofs.Managed.{managed_err_or_memory, managed_ok}
use Rattle.gl_catalog.proofs.RunsOn.{step_leaves_others}
use Rattle.gl_table.specs.Table.{KeepsOrders}
use Rattle.gl_catalog.proofs.manager.Manager.insert.Goals.{In_ok-parents}
use Rattle.gl_catalog.proofs.manager.Manager.insert.Goals as goal

pub returns-in_err-parents-clause-step : goal.returns-in_err-parents-clause-step
returns-in_err-parents-clause-step c =
    let s : State = state_of c.args.self.now in
    let is : c.from_residual-in_err-parents.result ≡ Err c.in_err-parents.field-0.0 = search rules in
    let refused = ap (λ (o : Option Refusal). first_refusal (o ∷ insert_tests s c.args.t c.args.file c.args.keys.now))
    (verdict_ok _ tt c.in_ok-check_count.ensures) ∙ refused_so (ArrayVec NodeId) _ _ c.in_err-parents.ensures.refuses in
    subst (λ (r : Result NodeId Refusal). CallSteps s (command.Insert c.args.t c.args.file c.args.keys) made r s) (sym is) (refused_step made
    (command.Insert c.args.t c.args.file c.args.keys) s c.in_err-parents.field-0.0 refused)

-- all tests were passed
passed : (c : In_ok-parents) → first_refusal (insert_tests (table_state c.self.inside.table) c.args.t c.args.file c.args.keys.now) ≡ None
passed c = subst (λ (v : ManagerView). first_refusal (insert_tests (state_of v) c.args.t c.args.file c.args.keys.now) ≡ None) (sym c.self.view_is)
    (goes_none _ _ c.in_ok-parents.ensures.refuses)

may : (c : In_ok-parents) → MayInsert (table_state c.self.inside.table) c.args.t c.args.file c.args.keys.now
may c = may_insert (table_state c.self.inside.table) c.args.t c.args.file c.args.keys.now (passed c)

-- the parents are the record's
parents_are : (c : In_ok-parents) → c.in_ok-parents.parents.items ≡ record_parents (table_state c.self.inside.table).graph c.args.file c.args.keys.now
parents_are c = c.in_ok-parents.ensures.parents ∙ ap (λ (v : ManagerView). record_parents (state_of v).graph c.args.file c.args.keys.now) (sym c.self.view_is)

pub place_under-requires-clause-acting : goal.place_under-requires-clause-acting
place_under-requires-clause-acting c = (may (goal.at.place_under-requires-clause-acting c).In_ok-parents).acting

pub place_under-requires-clause-free : goal.place_under-requires-clause-free
place_under-requires-clause-free c =
    let at = (goal.at.place_under-requires-clause-free c).In_ok-parents in
    record { free = (may at).free; parents = c.as_slice.ensures.value ∙ parents_are at }

pub place_under-requires-clause-writable : goal.place_under-requires-clause-writable
place_under-requires-clause-writable c =
    let at = (goal.at.place_under-requires-clause-writable c).In_ok-parents in
    ap (first_not_ix ((table_state c.self.inside.table).held c.args.t.slot)) (c.as_slice.ensures.value ∙ parents_are at) ∙ (may at).writable

pub returns-in_err-rec-clause-step : goal.returns-in_err-rec-clause-step
returns-in_err-rec-clause-step c =
    let at = (goal.at.returns-in_err-rec-clause-step c).In_ok-parents in
    let is : c.from_residual-in_err-rec.result ≡ Err c.in_err-rec.field-0.0 = search rules in
    subst (λ (r : Result NodeId Refusal). CallSteps (state_of c.args.self.now) (command.Insert c.args.t c.args.file c.args.keys) made r
    (counting c.self.inside.accepted (table_state c.place_under.new.self))) (sym is)
    (managed_err_or_memory made (command.Insert c.args.t c.args.file c.args.keys) c.self.inside.table c.self.inside.accepted c.args.self.now c.self.view_is
    (insert_tests (table_state c.self.inside.table) c.args.t c.args.file c.args.keys.now) refl
    c.in_err-rec.field-0.0 c.place_under.new.self c.in_ok-check_count.ensures (λ _. refl) (subst (λ (o : Option Refusal). Refuses {T = NodeId} o
    (Err c.in_err-rec.field-0.0)) (sym (passed at)) c.in_err-rec.ensures.refuses.memory) c.in_err-rec.ensures.refuses.err)

pub returns-clause-step : goal.returns-clause-step
returns-clause-step c =
    let at = (goal.at.returns-clause-step c).In_ok-parents in
    managed_ok made (command.Insert c.args.t c.args.file c.args.keys) c.self.inside.table c.self.inside.accepted c.args.self.now c.self.view_is
    (insert_tests (table_state c.self.inside.table) c.args.t c.args.file c.args.keys.now) refl
    c.in_ok-rec.rec c.place_under.new.self c.in_ok-check_count.ensures (unrefused _ _ (passed at)) refl
    (c.in_ok-rec.rec, c.in_ok-rec.ensures.made, refl, refl, ap (counting c.self.inside.accepted) c.in_ok-rec.ensures.state)

pub returns-clause-others : goal.returns-clause-others
returns-clause-others c =
    step_leaves_others (state_of c.args.self.now) (state_of
    (record { table = c.place_under.new.self; accepted = c.self.inside.accepted + 1; counters = c.self.inside.counters }))
    (command.Insert c.args.t c.args.file c.args.keys) (made c.in_ok-rec.rec) c.law.ensures.lawful (returns-clause-step c)

pub returns-clause-orders : goal.returns-clause-orders
returns-clause-orders c = subst (λ (v : ManagerView). KeepsOrders v.table c.place_under.new.self) c.self.view_is c.in_ok-rec.ensures.orders
