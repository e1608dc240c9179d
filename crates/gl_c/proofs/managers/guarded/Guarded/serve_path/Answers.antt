use Rattle.gl_catalog.specs.Paths.{lock_of}
use Rattle.gl_waiting.proofs.Rests.{same_slot}
use Rattle.gl_catalog.specs.Manager.{state_of}
use Rattle.std.proofs.Common.{◌≡◌, ap, refl, subst, sym, ◌∙◌}
use Rattle.gl_model.specs.Tellings.{Told}
use Rattle.gl_c.specs.managers.Carries.{Performs}
use Rattle.gl_c.specs.managers.Guarded.{GuardedView, with_waiting}
use Rattle.gl_c.specs.managers.Serving.{known_after}
use Rattle.gl_c.specs.managers.Showing.{parties_in, shown_in}
use Rattle.gl_c.specs.managers.Sound.{view_of}
use Rattle.gl_c.proofs.serving.Serving.{counted_as, idle_rouses, leaves_counted, leaves_idle, some_rouses, sound_counted, sound_idle}
use Rattle.gl_c.proofs.serving.Known.{path_knows}
use Rattle.gl_waiting.proofs.TurnRuns.{turn_alone, turn_run}
use Rattle.gl_c.specs.locks.Paths.{leaves_on_path}
use Rattle.gl_c.specs.locks.Paths.{path_call}
use Rattle.gl_c.proofs.managers.guarded.Guarded.serve_path.Goals as goal

-- no command was counted

same : (c : goal.Then-accepted-before) → c.lock_path-reached.new.self.manager.accepted ≡ c.self.inside.waiting.manager.accepted
same c =
    sym (counted_as _ _ _ c.accepted.ensures c.manager-2.ensures) ∙ c.if-accepted-before.true ∙ counted_as _ _ _ c.accepted-before.ensures c.manager.ensures

pub invariant_of-self : goal.invariant_of-self
invariant_of-self c =
    sound_idle c.self.inside c.lock_path-reached.new.self
    (turn_run c.self.inside.waiting _ c.lock_path-reached.result.1 c.lock_path-reached.new.self c.lock_path-reached.ensures (lock_of c.args.txn
    (c.args.node, c.args.mode))
    (λ own mid h. h.run)).0 c.self.invariant (same c)

pub returns-then-accepted-before : goal.returns-then-accepted-before
returns-then-accepted-before c =
    subst (λ (g : GuardedView). Performs g (path_call c.args.txn
    (c.args.node, c.args.mode)) c.lock_path-reached.result.0 c.lock_path-reached.new.told.items (with_waiting
    (view_of c.self.inside) c.lock_path-reached.new.self)) c.self.view_is
    (leaves_idle c.self.inside c.lock_path-reached.new.self
    (turn_run c.self.inside.waiting _ c.lock_path-reached.result.1 c.lock_path-reached.new.self c.lock_path-reached.ensures (lock_of c.args.txn
    (c.args.node, c.args.mode))
    (λ own mid h. h.run)).0 c.self.invariant (same c) _ _ c.self.inside.resting.resting refl
    (idle_rouses _ c.self.inside.waiting c.lock_path-reached.new.self c.self.inside.resting.resting (same c))
    (λ known. leaves_on_path known c.args.txn c.lock_path-reached.result.0 c.lock_path-reached.new.told.items) c.lock_path-reached.result.1
    c.lock_path-reached.ensures)

-- some were

pub invariant_of-self-2 : goal.invariant_of-self-2
invariant_of-self-2 c =
    sound_counted c.self.inside c.lock_path-reached.new.self
    (turn_run c.self.inside.waiting _ c.lock_path-reached.result.1 c.lock_path-reached.new.self c.lock_path-reached.ensures (lock_of c.args.txn
    (c.args.node, c.args.mode))
    (λ own mid h. h.run)).0 c.self.invariant c.rouse.new.self
    (c.rouse.ensures.keeps (state_of c.self.inside.waiting.manager) (lock_of c.args.txn (c.args.node, c.args.mode)) c.law.ensures.manager.lawful
    (turn_run c.self.inside.waiting _ c.lock_path-reached.result.1 c.lock_path-reached.new.self c.lock_path-reached.ensures (lock_of c.args.txn
    (c.args.node, c.args.mode)) (λ own mid h. h.run))
    (λ u e. same_slot u c.args.txn e) c.self.invariant.rests) c.lock_path-reached.result.1.went_on
    (λ known. leaves_on_path known c.args.txn c.lock_path-reached.result.0 c.lock_path-reached.new.told.items) c.keep_on_path.new.showing
    c.keep_on_path.ensures.shown (c.keep_on_path.ensures.parties ∙ ap (λ (l : Told). known_after c.lock_path-reached.result.1.went_on
    (parties_in c.self.inside.showing)
    (λ known. leaves_on_path known c.args.txn c.lock_path-reached.result.0 l)) c.as_slice.ensures.value) c.lock_path-reached.result.1.ended
    (λ quiet. path_knows c.self.inside.waiting (shown_in c.self.inside.showing)
    (parties_in c.self.inside.showing) c.self.invariant.known c.lock_path-reached.result.1.ended
    c.lock_path-reached.new.self c.law.ensures.manager.lawful c.law.ensures.manager.few c.args.txn
    (c.args.node, c.args.mode) c.lock_path-reached.result.0 c.lock_path-reached.new.told.items
    (turn_alone c.self.inside.waiting _ c.lock_path-reached.result.1 c.lock_path-reached.new.self c.lock_path-reached.ensures quiet))

pub returns : goal.returns
returns c =
    subst (λ (g : GuardedView). Performs g (path_call c.args.txn
    (c.args.node, c.args.mode)) c.lock_path-reached.result.0 c.lock_path-reached.new.told.items c.show_if_due.new.self) c.self.view_is
    (leaves_counted c.self.inside c.lock_path-reached.new.self
    (turn_run c.self.inside.waiting _ c.lock_path-reached.result.1 c.lock_path-reached.new.self c.lock_path-reached.ensures (lock_of c.args.txn
    (c.args.node, c.args.mode))
    (λ own mid h. h.run)).0 c.self.invariant c.rouse.new.self
    (c.rouse.ensures.keeps (state_of c.self.inside.waiting.manager) (lock_of c.args.txn (c.args.node, c.args.mode)) c.law.ensures.manager.lawful
    (turn_run c.self.inside.waiting _ c.lock_path-reached.result.1 c.lock_path-reached.new.self c.lock_path-reached.ensures (lock_of c.args.txn
    (c.args.node, c.args.mode)) (λ own mid h. h.run))
    (λ u e. same_slot u c.args.txn e) c.self.invariant.rests) c.lock_path-reached.result.1.went_on
    (λ known. leaves_on_path known c.args.txn c.lock_path-reached.result.0 c.lock_path-reached.new.told.items) c.keep_on_path.new.showing
    c.keep_on_path.ensures.shown (c.keep_on_path.ensures.parties ∙ ap (λ (l : Told). known_after c.lock_path-reached.result.1.went_on
    (parties_in c.self.inside.showing)
    (λ known. leaves_on_path known c.args.txn c.lock_path-reached.result.0 l)) c.as_slice.ensures.value) _ c.lock_path-reached.result.1
    c.show_if_due.new.self refl _
    (λ more. some_rouses _ c.self.inside.waiting c.lock_path-reached.new.self c.self.inside.resting.resting c.rouse.new.self.resting c.rouse.ensures.rest more)
    c.lock_path-reached.ensures (λ is. c.if-accepted-before.false (counted_as _ _ _ c.accepted.ensures c.manager-2.ensures ∙ is
    ∙ sym (counted_as _ _ _ c.accepted-before.ensures c.manager.ensures)))
    c.show_if_due.ensures.kept c.show_if_due.ensures.shown c.show_if_due.ensures.known)
