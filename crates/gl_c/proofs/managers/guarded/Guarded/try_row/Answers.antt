use Rattle.gl_rows.specs.Releasing.{no_node}
use Rattle.gl_catalog.specs.Paths.{lock_of}
use Rattle.gl_waiting.proofs.Rests.{same_slot}
use Rattle.gl_catalog.specs.Manager.{state_of}
use Rattle.std.proofs.Common.{◌≡◌, refl, subst, sym, ◌∙◌}
use Rattle.gl_c.specs.managers.Carries.{Performs}
use Rattle.gl_c.specs.managers.Guarded.{GuardedView, with_waiting}
use Rattle.gl_c.specs.managers.Showing.{parties_in, shown_in}
use Rattle.gl_c.specs.managers.Sound.{view_of}
use Rattle.gl_c.proofs.serving.Serving.{counted_as, idle_rouses, leaves_counted, leaves_idle, some_rouses, sound_counted, sound_idle}
use Rattle.gl_c.proofs.serving.Known.{tried_row_knows}
use Rattle.gl_waiting.proofs.TurnRuns.{turn_alone, turn_run}
use Rattle.gl_slots.specs.Slots.{has_none}
use Rattle.gl_c.specs.locks.Tries.{tried_row_call}
use Rattle.gl_c.proofs.managers.guarded.Guarded.try_row.Goals as goal

-- no command was counted

same : (c : goal.Then-accepted-before) → c.try_row-tried.new.self.manager.accepted ≡ c.self.inside.waiting.manager.accepted
same c =
    sym (counted_as _ _ _ c.accepted.ensures c.manager-2.ensures) ∙ c.if-accepted-before.true ∙ counted_as _ _ _ c.accepted-before.ensures c.manager.ensures

pub invariant_of-self : goal.invariant_of-self
invariant_of-self c =
    sound_idle c.self.inside c.try_row-tried.new.self
    (turn_run c.self.inside.waiting _ c.try_row-tried.result.1 c.try_row-tried.new.self c.try_row-tried.ensures (lock_of c.args.txn (no_node, c.args.mode))
    (λ own mid h. h.run)).0 c.self.invariant (same c)

pub returns-then-accepted-before : goal.returns-then-accepted-before
returns-then-accepted-before c =
    subst (λ (g : GuardedView). Performs g (tried_row_call
    (record { txn = c.args.txn; row = c.args.row; keys = c.args.keys; mode = c.args.mode })) c.try_row-tried.result.0 c.try_row-tried.new.told.items
    (with_waiting (view_of c.self.inside) c.try_row-tried.new.self)) c.self.view_is
    (leaves_idle c.self.inside c.try_row-tried.new.self
    (turn_run c.self.inside.waiting _ c.try_row-tried.result.1 c.try_row-tried.new.self c.try_row-tried.ensures (lock_of c.args.txn (no_node, c.args.mode))
    (λ own mid h. h.run)).0 c.self.invariant (same c) _ _ c.self.inside.resting.resting refl
    (idle_rouses _ c.self.inside.waiting c.try_row-tried.new.self c.self.inside.resting.resting (same c)) (has_none) c.try_row-tried.result.1
    c.try_row-tried.ensures)

-- some were

pub invariant_of-self-2 : goal.invariant_of-self-2
invariant_of-self-2 c =
    sound_counted c.self.inside c.try_row-tried.new.self
    (turn_run c.self.inside.waiting _ c.try_row-tried.result.1 c.try_row-tried.new.self c.try_row-tried.ensures (lock_of c.args.txn (no_node, c.args.mode))
    (λ own mid h. h.run)).0 c.self.invariant c.rouse.new.self
    (c.rouse.ensures.keeps (state_of c.self.inside.waiting.manager) (lock_of c.args.txn (no_node, c.args.mode)) c.law.ensures.manager.lawful
    (turn_run c.self.inside.waiting _ c.try_row-tried.result.1 c.try_row-tried.new.self c.try_row-tried.ensures (lock_of c.args.txn (no_node, c.args.mode))
    (λ own mid h. h.run))
    (λ u e. same_slot u c.args.txn e) c.self.invariant.rests) c.try_row-tried.result.1.went_on
    (has_none) c.keep_nobody.new.showing c.keep_nobody.ensures.shown (c.keep_nobody.ensures.parties) c.try_row-tried.result.1.ended
    (λ quiet. tried_row_knows c.self.inside.waiting (shown_in c.self.inside.showing)
    (parties_in c.self.inside.showing) c.self.invariant.known c.try_row-tried.result.1.ended
    c.try_row-tried.new.self
    (record { txn = c.args.txn; row = c.args.row; keys = c.args.keys; mode = c.args.mode }) c.try_row-tried.result.0 c.try_row-tried.new.told.items
    (turn_alone c.self.inside.waiting _ c.try_row-tried.result.1 c.try_row-tried.new.self c.try_row-tried.ensures quiet))

pub returns : goal.returns
returns c =
    subst (λ (g : GuardedView). Performs g (tried_row_call
    (record { txn = c.args.txn; row = c.args.row; keys = c.args.keys; mode = c.args.mode })) c.try_row-tried.result.0 c.try_row-tried.new.told.items
    c.show_if_due.new.self) c.self.view_is
    (leaves_counted c.self.inside c.try_row-tried.new.self
    (turn_run c.self.inside.waiting _ c.try_row-tried.result.1 c.try_row-tried.new.self c.try_row-tried.ensures (lock_of c.args.txn (no_node, c.args.mode))
    (λ own mid h. h.run)).0 c.self.invariant c.rouse.new.self
    (c.rouse.ensures.keeps (state_of c.self.inside.waiting.manager) (lock_of c.args.txn (no_node, c.args.mode)) c.law.ensures.manager.lawful
    (turn_run c.self.inside.waiting _ c.try_row-tried.result.1 c.try_row-tried.new.self c.try_row-tried.ensures (lock_of c.args.txn (no_node, c.args.mode))
    (λ own mid h. h.run))
    (λ u e. same_slot u c.args.txn e) c.self.invariant.rests) c.try_row-tried.result.1.went_on
    (has_none) c.keep_nobody.new.showing c.keep_nobody.ensures.shown (c.keep_nobody.ensures.parties) _ c.try_row-tried.result.1 c.show_if_due.new.self refl _
    (λ more. some_rouses _ c.self.inside.waiting c.try_row-tried.new.self c.self.inside.resting.resting c.rouse.new.self.resting c.rouse.ensures.rest more)
    c.try_row-tried.ensures (λ is. c.if-accepted-before.false (counted_as _ _ _ c.accepted.ensures c.manager-2.ensures ∙ is
    ∙ sym (counted_as _ _ _ c.accepted-before.ensures c.manager.ensures)))
    c.show_if_due.ensures.kept c.show_if_due.ensures.shown c.show_if_due.ensures.known)
