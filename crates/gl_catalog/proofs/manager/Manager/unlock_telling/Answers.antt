use Rattle.std.specs.Prelude.{Err, Result}
use Rattle.std.proofs.Common.{◌+◌, ap, refl, rules, subst, sym, ◌≡◌, ◌∙◌}
use Rattle.gl_modes.specs.declared.refusal.Refusal.{Refusal}
use Rattle.gl_model.specs.Calls.{unlock_tests}
use Rattle.gl_table.specs.Table.{state_of as table_state}
use Rattle.gl_steps.specs.declared.command.Command.TheVariants as command
use Rattle.gl_model.specs.State.{counting}
use Rattle.gl_catalog.specs.Manager.{ManagerView, state_of}
use Rattle.gl_catalog.specs.Replies.{CallSteps, doing}
use Rattle.gl_catalog.proofs.Managed.{managed_err, managed_ok_only}
use Rattle.gl_steps.specs.declared.command.Answer.TheVariants as answer
use Rattle.gl_catalog.specs.Sound.{view_of}
use Rattle.gl_catalog.proofs.Completed.{notices_counted, told_completed}
use Rattle.gl_catalog.proofs.manager.Manager.unlock_telling.Goals as goal

pub returns-in_err-unlock_telling-clause-step : goal.returns-in_err-unlock_telling-clause-step
returns-in_err-unlock_telling-clause-step c =
    let is : c.from_residual-in_err-unlock_telling.result ≡ Err c.in_err-unlock_telling.field-0.0 = search rules in
    subst (λ (r : Result (Unit {0}) Refusal). CallSteps (state_of c.args.self.now) (command.Unlock c.args.t c.args.n)
    (doing c.unlock_telling.new.notices.items) r (counting c.self.inside.accepted (table_state c.unlock_telling.new.self))) (sym is)
    (managed_err (doing c.unlock_telling.new.notices.items)
    (command.Unlock c.args.t c.args.n) c.self.inside.table c.self.inside.accepted c.args.self.now c.self.view_is (unlock_tests
    (table_state c.self.inside.table) c.args.t c.args.n) refl
    c.in_err-unlock_telling.field-0.0 c.unlock_telling.new.self c.in_ok-check_count.ensures c.in_err-unlock_telling.ensures.refuses
    c.in_err-unlock_telling.ensures.kept.err)

pub returns-clause-step : goal.returns-clause-step
returns-clause-step c =
    managed_ok_only (doing c.unlock_telling.new.notices.items)
    (command.Unlock c.args.t c.args.n) c.self.inside.table c.self.inside.accepted c.args.self.now c.self.view_is (unlock_tests
    (table_state c.self.inside.table) c.args.t c.args.n) refl
    tt c.unlock_telling.new.self c.in_ok-check_count.ensures c.in_ok-unlock_telling.ensures.refuses refl (
      refl,
      c.in_ok-unlock_telling.ensures.told,
      ap
          (counting c.self.inside.accepted) c.in_ok-unlock_telling.ensures.state,
    )

pub returns-clause-completes : goal.returns-clause-completes
returns-clause-completes c =
    told_completed (view_of c.self.inside) c.args.self.now
    (record { table = c.unlock_telling.new.self; accepted = c.self.inside.accepted + 1; counters = c.add_notices.new.self }) c.self.view_is c.self.invariant
    (command.Unlock c.args.t c.args.n) refl c.in_ok-unlock_telling.ensures.orders
    answer.Done c.unlock_telling.new.notices.items c.as_slice.result.now (returns-clause-step c)
    (c.in_ok-unlock_telling.ensures.deadlock ∙ ap (λ (v : ManagerView). v.table.deadlock) c.self.view_is) c.as_slice.ensures.value c.add_notices.ensures
    (notices_counted c.unlock_telling.new.notices.items)
