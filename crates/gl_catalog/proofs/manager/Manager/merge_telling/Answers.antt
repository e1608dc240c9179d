use Rattle.std.specs.Prelude.{◌≡◌, ◌||◌, ◌+◌, Err, is_none, None, Ok, Result}
use Rattle.std.proofs.Common.{ap, refl, rules, subst, sym, ◌∙◌}
use Rattle.std.proofs.lemmas.Result.{err_from_is_err_and}
use Rattle.gl_modes.specs.declared.refusal.Refusal.{Refusal}
use Rattle.gl_graph.proofs.Unrefused.{verdict_ok}
use Rattle.gl_model.specs.State.{counting}
use Rattle.gl_steps.proofs.NotRefused.{txn_lives}
use Rattle.gl_steps.proofs.SplitKeeps.{may_join, Merging}
use Rattle.gl_steps.specs.Tests.{is_cycle, refusal_of}
use Rattle.gl_steps.specs.declared.command.Answer.TheVariants as answer
use Rattle.gl_steps.specs.declared.command.Command.TheVariants as command
use Rattle.gl_table.proofs.calls.Locking.{test_refused}
use Rattle.gl_table.specs.Table.{state_of as table_state, TableView}
use Rattle.gl_catalog.specs.Manager.{ManagerView, state_of}
use Rattle.gl_catalog.specs.Replies.{CallSteps, doing}
use Rattle.gl_catalog.specs.Sound.{view_of}
use Rattle.gl_catalog.proofs.Carried.{accepted_step, memory_step, refused_step}
use Rattle.gl_catalog.proofs.Completed.{notices_counted, told_completed}
use Rattle.gl_catalog.proofs.manager.Manager.merge_telling.Goals.{In_ok-check_merge}
use Rattle.gl_catalog.proofs.manager.Manager.merge_telling.Goals as goal

pub returns-in_err-check_merge-clause-step : goal.returns-in_err-check_merge-clause-step
returns-in_err-check_merge-clause-step c =
    let exit = err_from_is_err_and c.from_residual.result c.from_residual.ensures.1 in
    rw (exit.1, exit.2) (refused_step (doing c.args.told.now.items) (command.Merge c.args.t c.args.interval) (state_of c.args.self.now) _
    (test_refused _ _ c.in_err-check_merge.ensures))

-- all tests were passed
free : (c : In_ok-check_merge) → refusal_of (state_of (view_of c.self.inside)) (command.Merge c.args.t c.args.interval) ≡ None
free c = subst (λ (v : ManagerView). refusal_of (state_of v) (command.Merge c.args.t c.args.interval) ≡ None) (sym c.self.view_is)
    (verdict_ok _ _ c.in_ok-check_merge.ensures)

may : (c : In_ok-check_merge) → Merging (state_of (view_of c.self.inside)) c.args.t c.args.interval
may c = may_join (state_of (view_of c.self.inside)) c.args.t c.args.interval (free c)

pub merge_telling-requires-clause-acting : goal.merge_telling-requires-clause-acting
merge_telling-requires-clause-acting c =
    let at = (goal.at.merge_telling-requires-clause-acting c).In_ok-check_merge in
    let m = may at in
    record { lives = txn_lives (state_of (view_of c.self.inside)) c.args.t m.named; active = m.active }

pub merge_telling-requires-clause-exclusive : goal.merge_telling-requires-clause-exclusive
merge_telling-requires-clause-exclusive c = (may (goal.at.merge_telling-requires-clause-exclusive c).In_ok-check_merge).holds

pub merge_telling-requires-clause-free : goal.merge_telling-requires-clause-free
merge_telling-requires-clause-free c = (may (goal.at.merge_telling-requires-clause-free c).In_ok-check_merge).free

-- nothing but memory was lacking
pub returns-in_err-merge_telling-clause-step : goal.returns-in_err-merge_telling-clause-step
returns-in_err-merge_telling-clause-step c =
    let at = (goal.at.returns-in_err-merge_telling-clause-step c).In_ok-check_merge in
    let k = c.self.inside.accepted in
    let is : c.from_residual-in_err-merge_telling.result ≡ Err c.in_err-merge_telling.field-0.0 = search rules in
    subst (λ (x : ManagerView × Result (Unit {0}) Refusal × TableView). CallSteps (state_of x.0) (command.Merge c.args.t c.args.interval)
    (doing c.merge_telling.new.notices.items) x.1 (counting k (table_state x.2)))
    (λ i. (c.self.view_is i, sym is i, sym c.in_err-merge_telling.ensures.kept.err i))
    (memory_step (doing c.merge_telling.new.notices.items) (command.Merge c.args.t c.args.interval) (state_of (view_of c.self.inside))
    c.in_err-merge_telling.field-0.0 (ap (λ o. is_none o || is_cycle o) (free at)) c.in_err-merge_telling.ensures.refused)

pub returns-clause-step : goal.returns-clause-step
returns-clause-step c =
    let at = (goal.at.returns-clause-step c).In_ok-check_merge in
    let k = c.self.inside.accepted in
    subst (λ (v : ManagerView). CallSteps (state_of v) (command.Merge c.args.t c.args.interval) (doing c.merge_telling.new.notices.items) (Ok tt)
    (counting (k + 1) (table_state c.merge_telling.new.self))) c.self.view_is
    (accepted_step (doing c.merge_telling.new.notices.items) (command.Merge c.args.t c.args.interval) (counting k (table_state c.self.inside.table)) tt
    (counting k (table_state c.merge_telling.new.self)) (counting (k + 1) (table_state c.merge_telling.new.self)) (free at) refl
    (refl, c.in_ok-merge_telling.ensures.told, ap (counting k) c.in_ok-merge_telling.ensures.state) refl)

pub returns-clause-completes : goal.returns-clause-completes
returns-clause-completes c =
    told_completed (view_of c.self.inside) c.args.self.now
    (record { table = c.merge_telling.new.self; accepted = c.self.inside.accepted + 1; counters = c.add_notices.new.self }) c.self.view_is c.self.invariant
    (command.Merge c.args.t c.args.interval) refl c.in_ok-merge_telling.ensures.orders
    answer.Done c.merge_telling.new.notices.items c.as_slice.result.now (returns-clause-step c)
    (c.in_ok-merge_telling.ensures.deadlock ∙ ap (λ (v : ManagerView). v.table.deadlock) c.self.view_is) c.as_slice.ensures.value c.add_notices.ensures
    (notices_counted c.merge_telling.new.notices.items)
