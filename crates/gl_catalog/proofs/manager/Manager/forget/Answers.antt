use Rattle.std.specs.Prelude.{[]}
use Rattle.std.proofs.Common.{◌+◌, ap, refl, ◌∙◌}
use Rattle.std.proofs.lemmas.Result.{err_from_is_err_and}
use Rattle.gl_graph.proofs.Unrefused.{verdict_ok}
use Rattle.gl_table.proofs.calls.Locking.{test_refused}
use Rattle.gl_steps.specs.declared.command.Command.TheVariants as command
use Rattle.gl_catalog.specs.Manager.{ManagerView, state_of}
use Rattle.gl_catalog.specs.Replies.{doing}
use Rattle.gl_catalog.specs.Sound.{view_of}
use Rattle.gl_catalog.proofs.Carried.{refused_step}
use Rattle.gl_catalog.proofs.Completed.{quiet_completed}
use Rattle.gl_catalog.proofs.Deletions.{forgotten_step}
use Rattle.gl_catalog.proofs.Uncounted.{raised_by_none}
use Rattle.gl_catalog.proofs.manager.Manager.forget.Goals as goal

pub returns-in_err-check_forget-clause-step : goal.returns-in_err-check_forget-clause-step
returns-in_err-check_forget-clause-step c =
    let exit = err_from_is_err_and c.from_residual.result c.from_residual.ensures.1 in
    rw (exit.1, exit.2) (refused_step (doing []) (command.Forget c.args.rec) (state_of c.args.self.now) _ (test_refused _ _ c.in_err-check_forget.ensures))

pub returns-clause-step : goal.returns-clause-step
returns-clause-step c =
    forgotten_step c.self.inside.table c.forget.new.self c.self.inside.accepted c.args.self.now c.self.view_is c.args.rec
    (verdict_ok _ _ c.in_ok-check_forget.ensures) c.forget.ensures.state

pub returns-clause-completes : goal.returns-clause-completes
returns-clause-completes c =
    quiet_completed (view_of c.self.inside) c.args.self.now
    (record { table = c.forget.new.self; accepted = c.self.inside.accepted + 1; counters = c.self.inside.counters }) c.self.view_is c.self.invariant
    (command.Forget c.args.rec) refl c.forget.ensures.orders (doing [] tt) (returns-clause-step c)
    (c.forget.ensures.deadlock ∙ ap (λ (v : ManagerView). v.table.deadlock) c.self.view_is) refl raised_by_none
