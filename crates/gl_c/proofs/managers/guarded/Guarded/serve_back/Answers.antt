use Rattle.gl_waiting.specs.Delivering.{unlocking}
use Rattle.gl_waiting.proofs.Rests.{same_slot}
use Rattle.gl_catalog.specs.Manager.{state_of}
use Rattle.std.proofs.Common.{◌≡◌, refl, subst, sym, ◌∙◌}
use Rattle.gl_c.specs.managers.Carries.{Performs}
use Rattle.gl_c.specs.managers.Guarded.{GuardedView, with_waiting}
use Rattle.gl_c.specs.managers.Showing.{parties_in, shown_in}
use Rattle.gl_c.specs.managers.Sound.{view_of}
use Rattle.gl_c.proofs.serving.Serving.{counted_as, idle_rouses, leaves_counted, leaves_idle, some_rouses, sound_counted, sound_idle}
use Rattle.gl_c.proofs.serving.Known.{back_knows}
use Rattle.gl_waiting.proofs.TurnRuns.{turn_alone, turn_run}
use Rattle.gl_slots.specs.Slots.{has_none}
use Rattle.gl_c.specs.locks.Savepoints.{back_call}
use Rattle.gl_c.proofs.managers.guarded.Guarded.serve_back.Goals as goal

-- no command was counted

same : (c : goal.Then-accepted-before) → c.release_since-released.new.self.manager.accepted ≡ c.self.inside.waiting.manager.accepted
same c =
    sym (counted_as _ _ _ c.accepted.ensures c.manager-2.ensures) ∙ c.if-accepted-before.true ∙ counted_as _ _ _ c.accepted-before.ensures c.manager.ensures

pub invariant_of-self : goal.invariant_of-self
invariant_of-self c =
    sound_idle c.self.inside c.release_since-released.new.self
    (turn_run c.self.inside.waiting _ c.release_since-released.result.1 c.release_since-released.new.self c.release_since-released.ensures
    (unlocking c.args.txn)
    (λ own mid h. h.run)).0 c.self.invariant (same c)

pub returns-then-accepted-before : goal.returns-then-accepted-before
returns-then-accepted-before c =
    subst (λ (g : GuardedView). Performs g (back_call c.args.txn c.args.mark) c.release_since-released.result.0 c.release_since-released.new.told.items
    (with_waiting (view_of c.self.inside) c.release_since-released.new.self)) c.self.view_is
    (leaves_idle c.self.inside c.release_since-released.new.self
    (turn_run c.self.inside.waiting _ c.release_since-released.result.1 c.release_since-released.new.self c.release_since-released.ensures
    (unlocking c.args.txn)
    (λ own mid h. h.run)).0 c.self.invariant (same c) _ _ c.self.inside.resting.resting refl
    (idle_rouses _ c.self.inside.waiting c.release_since-released.new.self c.self.inside.resting.resting (same c)) (has_none) c.release_since-released.result.1
    c.release_since-released.ensures)

-- some were

pub invariant_of-self-2 : goal.invariant_of-self-2
invariant_of-self-2 c =
    sound_counted c.self.inside c.release_since-released.new.self
    (turn_run c.self.inside.waiting _ c.release_since-released.result.1 c.release_since-released.new.self c.release_since-released.ensures
    (unlocking c.args.txn)
    (λ own mid h. h.run)).0 c.self.invariant c.rouse.new.self
    (c.rouse.ensures.keeps (state_of c.self.inside.waiting.manager) (unlocking c.args.txn) c.law.ensures.manager.lawful
    (turn_run c.self.inside.waiting _ c.release_since-released.result.1 c.release_since-released.new.self c.release_since-released.ensures
    (unlocking c.args.txn) (λ own mid h. h.run))
    (λ u e. same_slot u c.args.txn e) c.self.invariant.rests) c.release_since-released.result.1.went_on
    (has_none) c.keep_nobody.new.showing c.keep_nobody.ensures.shown (c.keep_nobody.ensures.parties) c.release_since-released.result.1.ended
    (λ quiet. back_knows c.self.inside.waiting (shown_in c.self.inside.showing)
    (parties_in c.self.inside.showing) c.self.invariant.known c.release_since-released.result.1.ended
    c.release_since-released.new.self c.args.txn c.args.mark c.release_since-released.result.0 c.release_since-released.new.told.items
    (turn_alone c.self.inside.waiting _ c.release_since-released.result.1 c.release_since-released.new.self c.release_since-released.ensures quiet))

pub returns : goal.returns
returns c =
    subst (λ (g : GuardedView). Performs g
    (back_call c.args.txn c.args.mark) c.release_since-released.result.0 c.release_since-released.new.told.items c.show_if_due.new.self) c.self.view_is
    (leaves_counted c.self.inside c.release_since-released.new.self
    (turn_run c.self.inside.waiting _ c.release_since-released.result.1 c.release_since-released.new.self c.release_since-released.ensures
    (unlocking c.args.txn)
    (λ own mid h. h.run)).0 c.self.invariant c.rouse.new.self
    (c.rouse.ensures.keeps (state_of c.self.inside.waiting.manager) (unlocking c.args.txn) c.law.ensures.manager.lawful
    (turn_run c.self.inside.waiting _ c.release_since-released.result.1 c.release_since-released.new.self c.release_since-released.ensures
    (unlocking c.args.txn) (λ own mid h. h.run))
    (λ u e. same_slot u c.args.txn e) c.self.invariant.rests) c.release_since-released.result.1.went_on
    (has_none) c.keep_nobody.new.showing c.keep_nobody.ensures.shown
    (c.keep_nobody.ensures.parties) _ c.release_since-released.result.1 c.show_if_due.new.self refl _
    (λ more. some_rouses _ c.self.inside.waiting c.release_since-released.new.self c.self.inside.resting.resting c.rouse.new.self.resting
    c.rouse.ensures.rest more)
    c.release_since-released.ensures (λ is. c.if-accepted-before.false (counted_as _ _ _ c.accepted.ensures c.manager-2.ensures ∙ is
    ∙ sym (counted_as _ _ _ c.accepted-before.ensures c.manager.ensures)))
    c.show_if_due.ensures.kept c.show_if_due.ensures.shown c.show_if_due.ensures.known)
