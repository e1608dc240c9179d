use Rattle.gl_steps.specs.declared.command.Command.TheVariants as command
use Rattle.std.proofs.Common.{◌≡◌, refl, subst, sym, ◌∙◌}
use Rattle.gl_c.specs.managers.Carries.{Performs}
use Rattle.gl_c.specs.managers.Guarded.{GuardedView, with_waiting}
use Rattle.gl_c.specs.managers.Showing.{parties_in, shown_in}
use Rattle.gl_c.specs.managers.Sound.{view_of}
use Rattle.gl_c.proofs.serving.Serving.{counted_as, leaves_counted, leaves_idle, sound_beside, sound_counted}
use Rattle.gl_c.proofs.serving.Known.{keeping_knows}
use Rattle.gl_waiting.proofs.TurnRuns.{turn_alone, turn_run}
use Rattle.gl_slots.specs.Slots.{has_none}
use Rattle.gl_c.specs.locks.Resting.{resting_call}
use Rattle.gl_c.proofs.managers.guarded.Guarded.serve_resting.Goals as goal

-- no command was counted

same : (c : goal.Then-accepted-before) → c.commit_keeping-next.new.waiting.manager.accepted ≡ c.self.inside.waiting.manager.accepted
same c =
    sym (counted_as _ _ _ c.accepted.ensures c.manager-2.ensures) ∙ c.if-accepted-before.true ∙ counted_as _ _ _ c.accepted-before.ensures c.manager.ensures

pub invariant_of-self : goal.invariant_of-self
invariant_of-self c =
    sound_beside c.self.inside c.commit_keeping-next.new.waiting
    (turn_run c.self.inside.waiting _ c.commit_keeping-next.result.1 c.commit_keeping-next.new.waiting c.commit_keeping-next.ensures.commits
    (command.Commit c.args.txn)
    (λ own mid h. h.run)).0 c.self.invariant (same c) c.commit_keeping-next.new.self
    c.commit_keeping-next.ensures.keeps

pub returns-then-accepted-before : goal.returns-then-accepted-before
returns-then-accepted-before c =
    subst (λ (g : GuardedView). Performs g (resting_call c.args.txn c.args.keep c.args.since) c.commit_keeping-next.result.0
    c.commit_keeping-next.new.told.items
    (record (with_waiting (view_of c.self.inside) c.commit_keeping-next.new.waiting) { resting = c.commit_keeping-next.new.self.resting })) c.self.view_is
    (leaves_idle c.self.inside c.commit_keeping-next.new.waiting
    (turn_run c.self.inside.waiting _ c.commit_keeping-next.result.1 c.commit_keeping-next.new.waiting c.commit_keeping-next.ensures.commits
    (command.Commit c.args.txn)
    (λ own mid h. h.run)).0 c.self.invariant (same c) _ _ c.commit_keeping-next.new.self.resting
    (c.commit_keeping-next.ensures.rest.uncounted (same c)) c.commit_keeping-next.ensures.rest (has_none) c.commit_keeping-next.result.1
    c.commit_keeping-next.ensures.commits)

-- some were

pub invariant_of-self-2 : goal.invariant_of-self-2
invariant_of-self-2 c =
    sound_counted c.self.inside c.commit_keeping-next.new.waiting
    (turn_run c.self.inside.waiting _ c.commit_keeping-next.result.1 c.commit_keeping-next.new.waiting c.commit_keeping-next.ensures.commits
    (command.Commit c.args.txn)
    (λ own mid h. h.run)).0 c.self.invariant c.commit_keeping-next.new.self c.commit_keeping-next.ensures.keeps c.commit_keeping-next.result.1.went_on
    (has_none) c.keep_nobody.new.showing c.keep_nobody.ensures.shown (c.keep_nobody.ensures.parties) c.commit_keeping-next.result.1.ended
    (λ quiet. keeping_knows c.self.inside.waiting (shown_in c.self.inside.showing)
    (parties_in c.self.inside.showing) c.self.invariant.known c.commit_keeping-next.result.1.ended
    c.commit_keeping-next.new.waiting c.args.txn c.args.keep c.args.since c.commit_keeping-next.result.0 c.commit_keeping-next.new.told.items
    (turn_alone c.self.inside.waiting _ c.commit_keeping-next.result.1 c.commit_keeping-next.new.waiting c.commit_keeping-next.ensures.commits quiet))

pub returns : goal.returns
returns c =
    subst (λ (g : GuardedView). Performs g
    (resting_call c.args.txn c.args.keep c.args.since) c.commit_keeping-next.result.0 c.commit_keeping-next.new.told.items c.show_if_due.new.self)
    c.self.view_is
    (leaves_counted c.self.inside c.commit_keeping-next.new.waiting
    (turn_run c.self.inside.waiting _ c.commit_keeping-next.result.1 c.commit_keeping-next.new.waiting c.commit_keeping-next.ensures.commits
    (command.Commit c.args.txn)
    (λ own mid h. h.run)).0 c.self.invariant c.commit_keeping-next.new.self c.commit_keeping-next.ensures.keeps c.commit_keeping-next.result.1.went_on
    (has_none) c.keep_nobody.new.showing c.keep_nobody.ensures.shown
    (c.keep_nobody.ensures.parties) _ c.commit_keeping-next.result.1 c.show_if_due.new.self refl _
    (λ more. c.commit_keeping-next.ensures.rest)
    c.commit_keeping-next.ensures.commits (λ is. c.if-accepted-before.false (counted_as _ _ _ c.accepted.ensures c.manager-2.ensures ∙ is
    ∙ sym (counted_as _ _ _ c.accepted-before.ensures c.manager.ensures)))
    c.show_if_due.ensures.kept c.show_if_due.ensures.shown c.show_if_due.ensures.known)
