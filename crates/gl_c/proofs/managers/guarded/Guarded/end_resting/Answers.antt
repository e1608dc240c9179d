use Rattle.std.specs.Prelude.{false}
use Rattle.std.proofs.Common.{◌≡◌, refl, subst, sym, ◌∙◌}
use Rattle.gl_c.specs.locks.Resting.{end_call}
use Rattle.gl_c.specs.managers.Carries.{Performs}
use Rattle.gl_c.specs.managers.Guarded.{GuardedView, with_waiting}
use Rattle.gl_c.specs.managers.Showing.{parties_in, shown_in}
use Rattle.gl_c.specs.managers.Sound.{view_of}
use Rattle.gl_c.proofs.serving.Serving.{counted_as, leaves_counted, leaves_idle, sound_beside, sound_counted}
use Rattle.gl_c.proofs.serving.Waiters.{forgets, knows_none}
use Rattle.gl_waiting.proofs.EndedRests.{chosen_idle, ends_run}
use Rattle.gl_c.proofs.managers.guarded.Guarded.end_resting.Goals as goal

-- no command was counted

same : (c : goal.Then-accepted-before) → c.end-came.new.waiting.manager.accepted ≡ c.self.inside.waiting.manager.accepted
same c =
    sym (counted_as _ _ _ c.accepted.ensures c.manager-2.ensures) ∙ c.if-accepted-before.true ∙ counted_as _ _ _ c.accepted-before.ensures c.manager.ensures

pub invariant_of-self : goal.invariant_of-self
invariant_of-self c =
    sound_beside c.self.inside c.end-came.new.waiting
    (ends_run c.args.number c.self.inside.waiting c.end-came.result.0 c.end-came.new.told.items c.end-came.result.1 c.end-came.new.waiting
    c.end-came.ensures.ends)
    c.self.invariant (same c)
    c.end-came.new.self c.end-came.ensures.keeps

pub returns-then-accepted-before : goal.returns-then-accepted-before
returns-then-accepted-before c =
    subst (λ (g : GuardedView). Performs g (end_call c.args.whom c.args.number) c.end-came.result.0 c.end-came.new.told.items
    (record (with_waiting (view_of c.self.inside) c.end-came.new.waiting) { resting = c.end-came.new.self.resting })) c.self.view_is
    (leaves_idle c.self.inside c.end-came.new.waiting
    (ends_run c.args.number c.self.inside.waiting c.end-came.result.0 c.end-came.new.told.items c.end-came.result.1 c.end-came.new.waiting
    c.end-came.ensures.ends)
    c.self.invariant (same c) _ _ c.end-came.new.self.resting
    (chosen_idle c.args.whom c.self.inside.waiting c.end-came.result.0 c.end-came.new.waiting c.self.inside.resting.resting c.end-came.new.self.resting
    c.end-came.ensures.chooses (same c)) c.end-came.ensures.chooses (λ known. false) c.end-came.result.1 c.end-came.ensures.ends)

-- some were

pub invariant_of-self-2 : goal.invariant_of-self-2
invariant_of-self-2 c =
    sound_counted c.self.inside c.end-came.new.waiting
    (ends_run c.args.number c.self.inside.waiting c.end-came.result.0 c.end-came.new.told.items c.end-came.result.1 c.end-came.new.waiting
    c.end-came.ensures.ends)
    c.self.invariant
    c.end-came.new.self c.end-came.ensures.keeps c.end-came.result.1.went_on (λ known. false) c.keep_nobody.new.showing c.keep_nobody.ensures.shown
    (forgets c.end-came.result.1.went_on (parties_in c.self.inside.showing) (parties_in c.keep_nobody.new.showing) c.keep_nobody.ensures.parties)
    c.end-came.result.1.ended (λ quiet. knows_none _ (shown_in c.self.inside.showing) (parties_in c.self.inside.showing))

pub returns : goal.returns
returns c =
    subst (λ (g : GuardedView). Performs g (end_call c.args.whom c.args.number) c.end-came.result.0 c.end-came.new.told.items c.show_if_due.new.self)
    c.self.view_is
    (leaves_counted c.self.inside c.end-came.new.waiting
    (ends_run c.args.number c.self.inside.waiting c.end-came.result.0 c.end-came.new.told.items c.end-came.result.1 c.end-came.new.waiting
    c.end-came.ensures.ends)
    c.self.invariant
    c.end-came.new.self c.end-came.ensures.keeps c.end-came.result.1.went_on (λ known. false) c.keep_nobody.new.showing c.keep_nobody.ensures.shown
    (forgets c.end-came.result.1.went_on (parties_in c.self.inside.showing) (parties_in c.keep_nobody.new.showing) c.keep_nobody.ensures.parties) _
    c.end-came.result.1 c.show_if_due.new.self refl _ (λ more. c.end-came.ensures.chooses) c.end-came.ensures.ends
    (λ is. c.if-accepted-before.false (counted_as _ _ _ c.accepted.ensures c.manager-2.ensures ∙ is
    ∙ sym (counted_as _ _ _ c.accepted-before.ensures c.manager.ensures))) c.show_if_due.ensures.kept c.show_if_due.ensures.shown
    c.show_if_due.ensures.known)
