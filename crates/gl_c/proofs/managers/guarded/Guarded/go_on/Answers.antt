use Rattle.gl_waiting.specs.Resting.{RestOn}
use Rattle.gl_catalog.specs.Manager.{state_of}
use Rattle.std.specs.Prelude.{false, ℕ, Option}
use Rattle.std.proofs.Common.{◌≡◌, refl, subst, sym, ◌∙◌}
use Rattle.gl_c.specs.locks.Waiters.{on_call}
use Rattle.gl_c.specs.managers.Carries.{Performs}
use Rattle.gl_c.specs.managers.Guarded.{GuardedView, with_waiting}
use Rattle.gl_c.specs.managers.Showing.{parties_in, shown_in}
use Rattle.gl_c.specs.managers.Sound.{view_of}
use Rattle.gl_c.proofs.serving.Serving.{counted_as, idle_rouses, leaves_counted, leaves_idle, some_rouses, sound_counted, sound_idle}
use Rattle.gl_c.proofs.serving.Waiters.{forgets, knows_none, on_acts}
use Rattle.gl_waiting.proofs.TurnRuns.{on_run, turn_run, on_command}
use Rattle.gl_c.proofs.managers.guarded.Guarded.go_on.Goals as goal

-- no command was counted

same : (c : goal.Then-accepted-before) → c.go_on-came.new.self.manager.accepted ≡ c.self.inside.waiting.manager.accepted
same c =
    sym (counted_as _ _ _ c.accepted.ensures c.manager-2.ensures) ∙ c.if-accepted-before.true ∙ counted_as _ _ _ c.accepted-before.ensures c.manager.ensures

pub invariant_of-self : goal.invariant_of-self
invariant_of-self c =
    sound_idle c.self.inside c.go_on-came.new.self
    (turn_run c.self.inside.waiting _ c.go_on-came.result.1 c.go_on-came.new.self c.go_on-came.ensures (on_command c.go_on-came.result.0)
    (λ own mid h. on_run c.self.inside.waiting c.go_on-came.result.0 c.go_on-came.new.told.items own mid h)).0 c.self.invariant (same c)

pub returns-then-accepted-before : goal.returns-then-accepted-before
returns-then-accepted-before c =
    subst (λ (g : GuardedView). Performs g on_call (c.go_on-came.result.0, c.has_next-over.result) c.go_on-came.new.told.items
    (with_waiting (view_of c.self.inside) c.go_on-came.new.self)) c.self.view_is
    (leaves_idle c.self.inside c.go_on-came.new.self
    (turn_run c.self.inside.waiting _ c.go_on-came.result.1 c.go_on-came.new.self c.go_on-came.ensures (on_command c.go_on-came.result.0)
    (λ own mid h. on_run c.self.inside.waiting c.go_on-came.result.0 c.go_on-came.new.told.items own mid h)).0 c.self.invariant
    (same c) _ _ c.self.inside.resting.resting refl
    (idle_rouses _ c.self.inside.waiting c.go_on-came.new.self c.self.inside.resting.resting (same c))
    (λ known. false) c.go_on-came.result.1 (c.go_on-came.ensures, c.has_next-over.ensures))

-- some were

pub invariant_of-self-2 : goal.invariant_of-self-2
invariant_of-self-2 c =
    sound_counted c.self.inside c.go_on-came.new.self
    (turn_run c.self.inside.waiting _ c.go_on-came.result.1 c.go_on-came.new.self c.go_on-came.ensures (on_command c.go_on-came.result.0)
    (λ own mid h. on_run c.self.inside.waiting c.go_on-came.result.0 c.go_on-came.new.told.items own mid h)).0 c.self.invariant c.rouse.new.self
    (c.rouse.ensures.keeps (state_of c.self.inside.waiting.manager) (on_command c.go_on-came.result.0) c.law.ensures.manager.lawful
    (turn_run c.self.inside.waiting _ c.go_on-came.result.1 c.go_on-came.new.self c.go_on-came.ensures (on_command c.go_on-came.result.0)
    (λ own mid h. on_run c.self.inside.waiting c.go_on-came.result.0 c.go_on-came.new.told.items own mid h))
    (on_acts c.go_on-came.result.0 c.slot_of.result c.slot_of.ensures) c.self.invariant.rests)
    c.go_on-came.result.1.went_on (λ known. false) c.keep_nobody.new.showing c.keep_nobody.ensures.shown
    (forgets c.go_on-came.result.1.went_on (parties_in c.self.inside.showing) (parties_in c.keep_nobody.new.showing) c.keep_nobody.ensures.parties)
    c.go_on-came.result.1.ended
    (λ quiet. knows_none _ (shown_in c.self.inside.showing) (parties_in c.self.inside.showing))

pub returns : goal.returns
returns c =
    subst (λ (g : GuardedView). Performs g on_call (c.go_on-came.result.0, c.has_next-over.result) c.go_on-came.new.told.items c.show_if_due.new.self)
    c.self.view_is
    (leaves_counted c.self.inside c.go_on-came.new.self
    (turn_run c.self.inside.waiting _ c.go_on-came.result.1 c.go_on-came.new.self c.go_on-came.ensures (on_command c.go_on-came.result.0)
    (λ own mid h. on_run c.self.inside.waiting c.go_on-came.result.0 c.go_on-came.new.told.items own mid h)).0 c.self.invariant c.rouse.new.self
    (c.rouse.ensures.keeps (state_of c.self.inside.waiting.manager) (on_command c.go_on-came.result.0) c.law.ensures.manager.lawful
    (turn_run c.self.inside.waiting _ c.go_on-came.result.1 c.go_on-came.new.self c.go_on-came.ensures (on_command c.go_on-came.result.0)
    (λ own mid h. on_run c.self.inside.waiting c.go_on-came.result.0 c.go_on-came.new.told.items own mid h))
    (on_acts c.go_on-came.result.0 c.slot_of.result c.slot_of.ensures) c.self.invariant.rests)
    c.go_on-came.result.1.went_on (λ known. false) c.keep_nobody.new.showing c.keep_nobody.ensures.shown
    (forgets c.go_on-came.result.1.went_on (parties_in c.self.inside.showing) (parties_in c.keep_nobody.new.showing) c.keep_nobody.ensures.parties) _
    c.go_on-came.result.1 c.show_if_due.new.self refl _
    (λ more. some_rouses _ c.self.inside.waiting c.go_on-came.new.self c.self.inside.resting.resting c.rouse.new.self.resting (subst (λ
    (o : Option ℕ). RestOn o c.self.inside.resting.resting c.rouse.new.self.resting) c.slot_of.ensures c.rouse.ensures.rest) more)
    (c.go_on-came.ensures, c.has_next-over.ensures)
    (λ is. c.if-accepted-before.false (counted_as _ _ _ c.accepted.ensures c.manager-2.ensures ∙ is
    ∙ sym (counted_as _ _ _ c.accepted-before.ensures c.manager.ensures))) c.show_if_due.ensures.kept c.show_if_due.ensures.shown
    c.show_if_due.ensures.known)
