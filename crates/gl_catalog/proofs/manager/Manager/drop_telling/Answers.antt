use Rattle.std.proofs.Common.{◌+◌, ap, refl, ◌∙◌}
use Rattle.std.proofs.lemmas.Result.{err_from_is_err_and}
use Rattle.gl_graph.proofs.Unrefused.{verdict_ok}
use Rattle.gl_table.proofs.calls.Locking.{test_refused}
use Rattle.gl_steps.specs.declared.command.Command.TheVariants as command
use Rattle.gl_catalog.specs.Manager.{ManagerView, state_of}
use Rattle.gl_catalog.specs.Replies.{doing}
use Rattle.gl_catalog.proofs.Carried.{refused_step}
use Rattle.gl_catalog.proofs.Schemas.{dropped_step}
use Rattle.gl_steps.specs.declared.command.Answer.TheVariants as answer
use Rattle.gl_catalog.specs.Sound.{view_of}
use Rattle.gl_catalog.proofs.Completed.{notices_counted, told_completed}
use Rattle.gl_catalog.proofs.manager.Manager.drop_telling.Goals as goal

pub returns-in_err-check_drop-clause-step : goal.returns-in_err-check_drop-clause-step
returns-in_err-check_drop-clause-step c =
    let exit = err_from_is_err_and c.from_residual.result c.from_residual.ensures.1 in
    rw (exit.1, exit.2) (refused_step (doing c.args.told.now.items) (command.Drop c.args.t c.args.n) (state_of c.args.self.now) _
    (test_refused _ _ c.in_err-check_drop.ensures))

pub returns-clause-step : goal.returns-clause-step
returns-clause-step c =
    dropped_step c.self.inside.table c.drop_telling.new.self c.self.inside.accepted c.args.self.now c.self.view_is c.args.t c.args.n
    c.drop_telling.new.notices
    (verdict_ok _ _ c.in_ok-check_drop.ensures) c.drop_telling.ensures.state c.drop_telling.ensures.told

pub returns-clause-completes : goal.returns-clause-completes
returns-clause-completes c =
    told_completed (view_of c.self.inside) c.args.self.now
    (record { table = c.drop_telling.new.self; accepted = c.self.inside.accepted + 1; counters = c.add_notices.new.self }) c.self.view_is c.self.invariant
    (command.Drop c.args.t c.args.n) refl c.drop_telling.ensures.orders
    answer.Done c.drop_telling.new.notices.items c.as_slice.result.now (returns-clause-step c)
    (c.drop_telling.ensures.deadlock ∙ ap (λ (v : ManagerView). v.table.deadlock) c.self.view_is) c.as_slice.ensures.value c.add_notices.ensures
    (notices_counted c.drop_telling.new.notices.items)
