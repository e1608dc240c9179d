use Rattle.std.specs.Prelude.{Err, Result}
use Rattle.std.proofs.Common.{ap, rules, subst, sym, ◌≡◌, ◌∙◌}
use Rattle.gl_modes.specs.declared.refusal.Refusal.{Refusal}
use Rattle.gl_steps.specs.declared.command.Command.TheVariants as command
use Rattle.gl_steps.specs.declared.command.Escalated.{Escalated}
use Rattle.gl_catalog.specs.Counters.{counted}
use Rattle.gl_catalog.specs.Manager.{ManagerView, state_of}
use Rattle.gl_catalog.specs.Replies.{Notices, rose, said}
use Rattle.gl_catalog.proofs.Uncounted.{refusal_counted}
use Rattle.gl_catalog.proofs.manager.Manager.escalate.Goals as goal

pub returns-in_err-escalated-clause-counters : goal.returns-in_err-escalated-clause-counters
returns-in_err-escalated-clause-counters c =
    let is : c.from_residual.result ≡ Err c.in_err-escalated.field-0.0 = search rules in
    subst (λ (r : Result (Escalated × Notices) Refusal). c.escalate_telling.new.self.counters ≡ counted (state_of c.args.self.now)
    (command.Escalate c.args.t c.args.n) (said rose r).0 (said rose r).1 (state_of c.escalate_telling.new.self) c.args.self.now.counters) (sym is)
    (ap (λ (v : ManagerView). v.counters) c.in_err-escalated.ensures.err
    ∙ sym (refusal_counted (state_of c.args.self.now) (state_of c.escalate_telling.new.self)
    (command.Escalate c.args.t c.args.n) c.in_err-escalated.field-0.0 c.args.self.now.counters))

pub returns-clause-step : goal.returns-clause-step
returns-clause-step c = c.in_ok-escalated.ensures.step

pub returns-clause-deadlock : goal.returns-clause-deadlock
returns-clause-deadlock c = c.in_ok-escalated.ensures.completes.deadlock

pub returns-clause-caller : goal.returns-clause-caller
returns-clause-caller c = c.in_ok-escalated.ensures.completes.caller

pub returns-clause-others : goal.returns-clause-others
returns-clause-others c = c.in_ok-escalated.ensures.completes.others

pub returns-clause-counted : goal.returns-clause-counted
returns-clause-counted c = c.in_ok-escalated.ensures.completes.accepted

pub returns-clause-counters : goal.returns-clause-counters
returns-clause-counters c = c.in_ok-escalated.ensures.completes.counters

pub returns-clause-orders : goal.returns-clause-orders
returns-clause-orders c = c.in_ok-escalated.ensures.completes.orders
