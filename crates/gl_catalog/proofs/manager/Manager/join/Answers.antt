use Rattle.std.specs.Prelude.{Err, Result}
use Rattle.std.proofs.Common.{◌+◌, ap, ap₂, refl, rules, subst, sym, ◌≡◌, ◌∙◌}
use Rattle.gl_modes.specs.declared.refusal.Refusal.{Refusal}
use Rattle.gl_model.specs.declared.txn.TxnId.{TxnId}
use Rattle.gl_model.specs.Calls.{join_tests}
use Rattle.gl_table.specs.Table.{state_of as table_state}
use Rattle.gl_steps.specs.declared.command.Answer.TheVariants as answer
use Rattle.gl_steps.specs.declared.command.Command.TheVariants as command
use Rattle.gl_model.specs.State.{counting}
use Rattle.gl_catalog.specs.Manager.{ManagerView, state_of}
use Rattle.gl_catalog.specs.Replies.{CallSteps, began}
use Rattle.gl_catalog.specs.Sound.{view_of}
use Rattle.gl_catalog.proofs.Completed.{quiet_completed}
use Rattle.gl_catalog.proofs.Managed.{managed_err, managed_ok_only}
use Rattle.gl_catalog.proofs.Uncounted.{raised_by_none}
use Rattle.gl_catalog.proofs.manager.Manager.join.Goals as goal

pub returns-clause-step : goal.returns-clause-step
returns-clause-step c =
    let went = c.in_ok-txn.ensures.joined in
    managed_ok_only began (command.Join c.args.slot c.args.since) c.self.inside.table c.self.inside.accepted c.args.self.now c.self.view_is
    (join_tests (table_state c.self.inside.table) c.args.slot c.args.since) refl c.in_ok-txn.txn c.join.new.self c.in_ok-check_count.ensures
    c.in_ok-txn.ensures.refuses refl
    (ap₂ (λ slot age. answer.Begun (record { slot = slot; age = age })) went.0 went.1, refl, ap (counting c.self.inside.accepted) went.2)

pub returns-clause-completes : goal.returns-clause-completes
returns-clause-completes c =
    quiet_completed (view_of c.self.inside) c.args.self.now
    (record { table = c.join.new.self; accepted = c.self.inside.accepted + 1; counters = c.self.inside.counters }) c.self.view_is c.self.invariant
    (command.Join c.args.slot c.args.since) refl c.in_ok-txn.ensures.orders (began c.in_ok-txn.txn) (returns-clause-step c) (c.in_ok-txn.ensures.deadlock
    ∙ ap (λ (v : ManagerView). v.table.deadlock) c.self.view_is) refl raised_by_none

pub returns-in_err-txn-clause-step : goal.returns-in_err-txn-clause-step
returns-in_err-txn-clause-step c =
    let is : c.from_residual-in_err-txn.result ≡ Err c.in_err-txn.field-0.0 = search rules in
    subst (λ (r : Result TxnId Refusal). CallSteps (state_of c.args.self.now) (command.Join c.args.slot c.args.since) began r (counting c.self.inside.accepted
    (table_state c.join.new.self))) (sym is)
    (managed_err began (command.Join c.args.slot c.args.since) c.self.inside.table c.self.inside.accepted c.args.self.now c.self.view_is
    (join_tests (table_state c.self.inside.table) c.args.slot c.args.since) refl c.in_err-txn.field-0.0 c.join.new.self c.in_ok-check_count.ensures
    c.in_err-txn.ensures.refuses c.in_err-txn.ensures.err)
