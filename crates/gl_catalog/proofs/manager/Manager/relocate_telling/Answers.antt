use Rattle.std.specs.Prelude.{◌≡◌, ◌∷◌, ◌+◌, Result, Ok, Err}
use Rattle.std.proofs.Common.{subst, sym, rules, ap, refl, ◌∙◌}
use Rattle.gl_modes.specs.declared.refusal.Refusal.{Refusal}
use Rattle.gl_graph.specs.Refusals.{first_refusal, verdict}
use Rattle.gl_table.specs.Table.{TableView, state_of as table_state}
use Rattle.gl_steps.specs.declared.command.Command.TheVariants as command
use Rattle.gl_model.specs.State.{counting}
use Rattle.gl_catalog.specs.Manager.{ManagerView, state_of}
use Rattle.gl_catalog.specs.Replies.{CallSteps, doing}
use Rattle.gl_catalog.specs.Sound.{view_of}
use Rattle.gl_steps.specs.Tests.{move_asks, worn}
use Rattle.gl_catalog.proofs.Relocations.{MayRegraft, may_regraft, relocate_fails, relocate_refused, relocated}
use Rattle.gl_steps.specs.declared.command.Answer.TheVariants as answer
use Rattle.gl_catalog.proofs.Completed.{notices_counted, told_completed}
use Rattle.gl_catalog.proofs.manager.Manager.relocate_telling.Goals.{In_ok-check_relocate}
use Rattle.gl_catalog.proofs.manager.Manager.relocate_telling.Goals as goal

pub returns-in_err-check_relocate-clause-step : goal.returns-in_err-check_relocate-clause-step
returns-in_err-check_relocate-clause-step c =
    let is : c.from_residual.result ≡ Err c.in_err-check_relocate.field-0.0 = search rules in
    subst (λ (r : Result (Unit {0}) Refusal). CallSteps (state_of c.args.self.now) (command.Move c.args.t c.args.n c.args.parents)
    (doing c.args.told.now.items) r (state_of c.args.self.now)) (sym is)
    (relocate_refused (state_of c.args.self.now) c.args.t c.args.n c.args.parents c.in_err-check_relocate.field-0.0 c.in_err-check_relocate.ensures)

-- all tests but the last were passed
asked : (c : In_ok-check_relocate) → Ok tt ≡ verdict (first_refusal (worn (state_of (view_of c.self.inside)) ∷ move_asks (state_of
    (view_of c.self.inside)) c.args.t c.args.n c.args.parents.now))
asked c = subst (λ (v : ManagerView). Ok tt ≡ verdict (first_refusal (worn (state_of v) ∷ move_asks (state_of v) c.args.t c.args.n c.args.parents.now)))
    (sym c.self.view_is) c.in_ok-check_relocate.ensures

may : (c : In_ok-check_relocate) → MayRegraft (state_of (view_of c.self.inside)) c.args.t c.args.n c.args.parents.now
may c = may_regraft (state_of (view_of c.self.inside)) c.args.t c.args.n c.args.parents (asked c)

pub regraft_telling-requires-clause-acting : goal.regraft_telling-requires-clause-acting
regraft_telling-requires-clause-acting c =
    let m = (may (goal.at.regraft_telling-requires-clause-acting c).In_ok-check_relocate).acting in record { lives = m.lives; active = m.active }

pub regraft_telling-requires-clause-allowed : goal.regraft_telling-requires-clause-allowed
regraft_telling-requires-clause-allowed c =
    let m = (may (goal.at.regraft_telling-requires-clause-allowed c).In_ok-check_relocate).allowed in
    record { movable = m.movable; inner = m.inner; exclusive = m.exclusive; rule = m.rule }

pub returns-in_err-regraft_telling-clause-step : goal.returns-in_err-regraft_telling-clause-step
returns-in_err-regraft_telling-clause-step c =
    let at = (goal.at.returns-in_err-regraft_telling-clause-step c).In_ok-check_relocate in
    let is : c.from_residual-in_err-regraft_telling.result ≡ Err c.in_err-regraft_telling.field-0.0 = search rules in
    subst (λ (x : ManagerView × Result (Unit {0}) Refusal × TableView). CallSteps (state_of x.0) (command.Move c.args.t c.args.n c.args.parents)
    (doing c.regraft_telling.new.notices.items) x.1 (counting c.self.inside.accepted (table_state x.2)))
    (λ i. (c.self.view_is i, sym is i, sym c.in_err-regraft_telling.ensures.kept.err i))
    (relocate_fails (state_of (view_of c.self.inside)) c.args.t c.args.n c.args.parents
    (asked at) c.in_err-regraft_telling.field-0.0 c.in_err-regraft_telling.ensures.refuses.refused)

pub returns-clause-step : goal.returns-clause-step
returns-clause-step c = let at = (goal.at.returns-clause-step c).In_ok-check_relocate in
    subst (λ (v : ManagerView). CallSteps (state_of v) (command.Move c.args.t c.args.n c.args.parents) (doing c.regraft_telling.new.notices.items) (Ok tt)
    (counting (c.self.inside.accepted + 1) (table_state c.regraft_telling.new.self))) c.self.view_is
    (relocated c.self.inside.accepted (table_state c.self.inside.table)
    (table_state c.regraft_telling.new.self) c.args.t c.args.n c.args.parents c.regraft_telling.new.notices
    (asked at) c.in_ok-regraft_telling.ensures.refuses.clear c.in_ok-regraft_telling.ensures.told c.in_ok-regraft_telling.ensures.state)

pub returns-clause-completes : goal.returns-clause-completes
returns-clause-completes c =
    told_completed (view_of c.self.inside) c.args.self.now
    (record { table = c.regraft_telling.new.self; accepted = c.self.inside.accepted + 1; counters = c.add_notices.new.self }) c.self.view_is
    c.self.invariant
    (command.Move c.args.t c.args.n c.args.parents) refl c.in_ok-regraft_telling.ensures.orders
    answer.Done c.regraft_telling.new.notices.items c.as_slice.result.now (returns-clause-step c)
    (c.in_ok-regraft_telling.ensures.deadlock
    ∙ ap (λ (v : ManagerView). v.table.deadlock) c.self.view_is) c.as_slice.ensures.value c.add_notices.ensures
    (notices_counted c.regraft_telling.new.notices.items)
