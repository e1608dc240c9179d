use Rattle.std.specs.Prelude.{Err, Result}
use Rattle.std.proofs.Common.{ap, rules, subst, sym, ◌≡◌, ◌∙◌}
use Rattle.gl_modes.specs.declared.refusal.Refusal.{Refusal}
use Rattle.gl_steps.specs.declared.command.Command.TheVariants as command
use Rattle.gl_catalog.specs.Counters.{counted}
use Rattle.gl_catalog.specs.Manager.{ManagerView, state_of}
use Rattle.gl_catalog.specs.Replies.{Notices, done, said}
use Rattle.gl_catalog.proofs.Uncounted.{refusal_counted}
use Rattle.gl_catalog.proofs.manager.Manager.rekey.Goals as goal

pub returns-in_err-rekey_telling-clause-counters : goal.returns-in_err-rekey_telling-clause-counters
returns-in_err-rekey_telling-clause-counters c =
    let is : c.from_residual.result ≡ Err c.in_err-rekey_telling.field-0.0 = search rules in
    subst (λ (r : Result Notices Refusal). c.rekey_telling.new.self.counters ≡ counted (state_of c.args.self.now)
    (command.Rekey c.args.t c.args.rec c.args.index c.args.key) (said done r).0 (said done r).1
    (state_of c.rekey_telling.new.self) c.args.self.now.counters) (sym is)
    (ap (λ (v : ManagerView). v.counters) c.in_err-rekey_telling.ensures.err
    ∙ sym (refusal_counted (state_of c.args.self.now) (state_of c.rekey_telling.new.self)
    (command.Rekey c.args.t c.args.rec c.args.index c.args.key) c.in_err-rekey_telling.field-0.0 c.args.self.now.counters))

pub returns-clause-step : goal.returns-clause-step
returns-clause-step c = c.in_ok-rekey_telling.ensures.step

pub returns-clause-deadlock : goal.returns-clause-deadlock
returns-clause-deadlock c = c.in_ok-rekey_telling.ensures.completes.deadlock

pub returns-clause-caller : goal.returns-clause-caller
returns-clause-caller c = c.in_ok-rekey_telling.ensures.completes.caller

pub returns-clause-others : goal.returns-clause-others
returns-clause-others c = c.in_ok-rekey_telling.ensures.completes.others

pub returns-clause-counted : goal.returns-clause-counted
returns-clause-counted c = c.in_ok-rekey_telling.ensures.completes.accepted

pub returns-clause-counters : goal.returns-clause-counters
returns-clause-counters c = c.in_ok-rekey_telling.ensures.completes.counters

pub returns-clause-orders : goal.returns-clause-orders
returns-clause-orders c = c.in_ok-rekey_telling.ensures.completes.orders
