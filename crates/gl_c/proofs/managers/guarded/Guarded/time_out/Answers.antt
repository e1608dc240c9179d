use Rattle.gl_steps.specs.declared.command.Command.TheVariants as command
use Rattle.gl_waiting.proofs.Rests.{same_slot}
use Rattle.gl_catalog.specs.Manager.{state_of}
use Rattle.std.specs.Prelude.{false}
use Rattle.std.proofs.Common.{◌≡◌, refl, subst, sym, ◌∙◌}
use Rattle.gl_c.specs.locks.Waiters.{late_call}
use Rattle.gl_c.specs.managers.Carries.{Performs}
use Rattle.gl_c.specs.managers.Guarded.{GuardedView, with_waiting}
use Rattle.gl_c.specs.managers.Showing.{parties_in, shown_in}
use Rattle.gl_c.specs.managers.Sound.{view_of}
use Rattle.gl_c.proofs.serving.Serving.{counted_as, idle_rouses, leaves_counted, leaves_idle, some_rouses, sound_counted, sound_idle}
use Rattle.gl_c.proofs.serving.Waiters.{forgets, knows_none}
use Rattle.gl_waiting.proofs.TurnRuns.{turn_run}
use Rattle.gl_c.proofs.managers.guarded.Guarded.time_out.Goals as goal

-- no command was counted

same : (c : goal.Then-accepted-before) → c.time_out-end.new.self.manager.accepted ≡ c.self.inside.waiting.manager.accepted
same c =
    sym (counted_as _ _ _ c.accepted.ensures c.manager-2.ensures) ∙ c.if-accepted-before.true ∙ counted_as _ _ _ c.accepted-before.ensures c.manager.ensures

pub invariant_of-self : goal.invariant_of-self
invariant_of-self c =
    sound_idle c.self.inside c.time_out-end.new.self
    (turn_run c.self.inside.waiting _ c.time_out-end.result.1 c.time_out-end.new.self c.time_out-end.ensures (command.Cancel c.args.txn)
    (λ own mid h. h.run)).0 c.self.invariant (same c)

pub returns-then-accepted-before : goal.returns-then-accepted-before
returns-then-accepted-before c =
    subst (λ (g : GuardedView). Performs g (late_call c.args.txn) c.time_out-end.result.0 c.time_out-end.new.told.items
    (with_waiting (view_of c.self.inside) c.time_out-end.new.self)) c.self.view_is
    (leaves_idle c.self.inside c.time_out-end.new.self
    (turn_run c.self.inside.waiting _ c.time_out-end.result.1 c.time_out-end.new.self c.time_out-end.ensures (command.Cancel c.args.txn)
    (λ own mid h. h.run)).0 c.self.invariant (same c) _ _ c.self.inside.resting.resting refl
    (idle_rouses _ c.self.inside.waiting c.time_out-end.new.self c.self.inside.resting.resting (same c))
    (λ known. false) c.time_out-end.result.1 c.time_out-end.ensures)

-- some were

pub invariant_of-self-2 : goal.invariant_of-self-2
invariant_of-self-2 c =
    sound_counted c.self.inside c.time_out-end.new.self
    (turn_run c.self.inside.waiting _ c.time_out-end.result.1 c.time_out-end.new.self c.time_out-end.ensures (command.Cancel c.args.txn)
    (λ own mid h. h.run)).0 c.self.invariant c.rouse.new.self
    (c.rouse.ensures.keeps (state_of c.self.inside.waiting.manager) (command.Cancel c.args.txn) c.law.ensures.manager.lawful
    (turn_run c.self.inside.waiting _ c.time_out-end.result.1 c.time_out-end.new.self c.time_out-end.ensures (command.Cancel c.args.txn) (λ own mid h. h.run))
    (λ u e. same_slot u c.args.txn e) c.self.invariant.rests)
    c.time_out-end.result.1.went_on (λ known. false) c.keep_nobody.new.showing c.keep_nobody.ensures.shown
    (forgets c.time_out-end.result.1.went_on (parties_in c.self.inside.showing) (parties_in c.keep_nobody.new.showing) c.keep_nobody.ensures.parties)
    c.time_out-end.result.1.ended
    (λ quiet. knows_none _ (shown_in c.self.inside.showing) (parties_in c.self.inside.showing))

pub returns : goal.returns
returns c =
    subst (λ (g : GuardedView). Performs g (late_call c.args.txn) c.time_out-end.result.0 c.time_out-end.new.told.items c.show_if_due.new.self) c.self.view_is
    (leaves_counted c.self.inside c.time_out-end.new.self
    (turn_run c.self.inside.waiting _ c.time_out-end.result.1 c.time_out-end.new.self c.time_out-end.ensures (command.Cancel c.args.txn)
    (λ own mid h. h.run)).0 c.self.invariant c.rouse.new.self
    (c.rouse.ensures.keeps (state_of c.self.inside.waiting.manager) (command.Cancel c.args.txn) c.law.ensures.manager.lawful
    (turn_run c.self.inside.waiting _ c.time_out-end.result.1 c.time_out-end.new.self c.time_out-end.ensures (command.Cancel c.args.txn) (λ own mid h. h.run))
    (λ u e. same_slot u c.args.txn e) c.self.invariant.rests)
    c.time_out-end.result.1.went_on (λ known. false) c.keep_nobody.new.showing c.keep_nobody.ensures.shown
    (forgets c.time_out-end.result.1.went_on (parties_in c.self.inside.showing) (parties_in c.keep_nobody.new.showing) c.keep_nobody.ensures.parties) _
    c.time_out-end.result.1 c.show_if_due.new.self refl _
    (λ more. some_rouses _ c.self.inside.waiting c.time_out-end.new.self c.self.inside.resting.resting c.rouse.new.self.resting c.rouse.ensures.rest more)
    c.time_out-end.ensures
    (λ is. c.if-accepted-before.false (counted_as _ _ _ c.accepted.ensures c.manager-2.ensures ∙ is
    ∙ sym (counted_as _ _ _ c.accepted-before.ensures c.manager.ensures))) c.show_if_due.ensures.kept c.show_if_due.ensures.shown
    c.show_if_due.ensures.known)
