use Rattle.std.specs.Prelude.{◌≡◌, ◌+◌, Result, Ok, Err}
use Rattle.std.proofs.Common.{subst, sym, rules, ap, refl, ◌∙◌}
use Rattle.gl_modes.specs.declared.refusal.Refusal.{Refusal}
use Rattle.gl_graph.specs.Refusals.{verdict}
use Rattle.gl_table.specs.Table.{state_of as table_state}
use Rattle.gl_table.proofs.calls.Locking.{test_refused}
use Rattle.gl_steps.specs.declared.command.Command.TheVariants as command
use Rattle.gl_model.specs.State.{counting}
use Rattle.gl_catalog.specs.Manager.{ManagerView, state_of}
use Rattle.gl_catalog.specs.Replies.{CallSteps, doing}
use Rattle.gl_catalog.specs.Sound.{view_of}
use Rattle.gl_steps.specs.Tests.{refusal_of}
use Rattle.gl_catalog.proofs.Carried.{refused_step}
use Rattle.gl_catalog.proofs.Rekeyings.{MayReparent, may_reparent, rekey_done}
use Rattle.gl_steps.specs.declared.command.Answer.TheVariants as answer
use Rattle.gl_catalog.proofs.Completed.{notices_counted, told_completed}
use Rattle.gl_catalog.proofs.manager.Manager.rekey_telling.Goals.{In_ok-check_rekey}
use Rattle.gl_catalog.proofs.manager.Manager.rekey_telling.Goals as goal

pub returns-in_err-check_rekey-clause-step : goal.returns-in_err-check_rekey-clause-step
returns-in_err-check_rekey-clause-step c =
    let is : c.from_residual.result ≡ Err c.in_err-check_rekey.field-0.0 = search rules in
    subst (λ (r : Result (Unit {0}) Refusal). CallSteps (state_of c.args.self.now) (command.Rekey c.args.t c.args.rec c.args.index c.args.key)
    (doing c.args.told.now.items) r (state_of c.args.self.now)) (sym is)
    (refused_step (doing c.args.told.now.items) (command.Rekey c.args.t c.args.rec c.args.index c.args.key)
    (state_of c.args.self.now) c.in_err-check_rekey.field-0.0 (test_refused _ c.in_err-check_rekey.field-0.0 c.in_err-check_rekey.ensures))

-- all tests were passed
asked : (c : In_ok-check_rekey) → Ok tt ≡ verdict (refusal_of (state_of (view_of c.self.inside)) (command.Rekey c.args.t c.args.rec c.args.index c.args.key))
asked c = subst (λ (v : ManagerView). Ok tt ≡ verdict (refusal_of (state_of v) (command.Rekey c.args.t c.args.rec c.args.index c.args.key)))
    (sym c.self.view_is) c.in_ok-check_rekey.ensures

may : (c : In_ok-check_rekey) → MayReparent (state_of (view_of c.self.inside)) c.args.t c.args.rec c.args.index c.args.key
may c = may_reparent (state_of (view_of c.self.inside)) c.args.t c.args.rec c.args.index c.args.key (asked c)

pub reparent_telling-requires-clause-acting : goal.reparent_telling-requires-clause-acting
reparent_telling-requires-clause-acting c =
    let m = (may (goal.at.reparent_telling-requires-clause-acting c).In_ok-check_rekey).acting in record { lives = m.lives; active = m.active }

pub reparent_telling-requires-clause-allowed : goal.reparent_telling-requires-clause-allowed
reparent_telling-requires-clause-allowed c =
    let m = (may (goal.at.reparent_telling-requires-clause-allowed c).In_ok-check_rekey).allowed in
    record { «record» = m.«record»; index = m.index; exclusive = m.exclusive; parents = m.parents }

pub returns-clause-step : goal.returns-clause-step
returns-clause-step c =
    let at = (goal.at.returns-clause-step c).In_ok-check_rekey in
    subst (λ (v : ManagerView). CallSteps (state_of v) (command.Rekey c.args.t c.args.rec c.args.index c.args.key)
    (doing c.reparent_telling.new.notices.items) (Ok tt) (counting (c.self.inside.accepted + 1) (table_state c.reparent_telling.new.self))) c.self.view_is
    (rekey_done c.self.inside.accepted (table_state c.self.inside.table)
    (table_state c.reparent_telling.new.self) c.args.t c.args.rec c.args.index c.args.key c.reparent_telling.new.notices
    (asked at) c.reparent_telling.ensures.told c.reparent_telling.ensures.state)

pub returns-clause-completes : goal.returns-clause-completes
returns-clause-completes c =
    told_completed (view_of c.self.inside) c.args.self.now
    (record { table = c.reparent_telling.new.self; accepted = c.self.inside.accepted + 1; counters = c.add_notices.new.self }) c.self.view_is
    c.self.invariant
    (command.Rekey c.args.t c.args.rec c.args.index c.args.key) refl c.reparent_telling.ensures.orders
    answer.Done c.reparent_telling.new.notices.items c.as_slice.result.now
    (returns-clause-step c)
    (c.reparent_telling.ensures.deadlock ∙ ap (λ (v : ManagerView). v.table.deadlock) c.self.view_is) c.as_slice.ensures.value c.add_notices.ensures
    (notices_counted c.reparent_telling.new.notices.items)
