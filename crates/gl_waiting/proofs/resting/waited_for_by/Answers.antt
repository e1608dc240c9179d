use Rattle.std.specs.Prelude.{true, not, ◌&&◌, ◌==◌}
use Rattle.std.proofs.Common.{◌≡◌, ap, sym, ◌∙◌}
use Rattle.gl_modes.proofs.Words.{and_both, or_elim, or_left, or_right, same_number, split}
use Rattle.gl_slots.specs.Slots.{has_slot}
use Rattle.gl_model.specs.State.{waits_for}
use Rattle.gl_catalog.specs.Manager.{state_of}
use Rattle.gl_waiting.proofs.Rests.{and_true}
use Rattle.gl_waiting.proofs.resting.waited_for_by.Goals as goal

pub waiters-preserved : goal.waiters-preserved
waiters-preserved c =
    let slot = c.in-Some.slot in
    let left = c.waiters.left in (
      λ u is.
          or_elim (has_slot c.waiters.found u) (has_slot c.waited_for.result u) (sym (c.union-found.ensures u) ∙ is) (c.waiters.invariant.0 u)
          (λ now. (slot, c.waiters.invariant.2 slot c.in-Some.ensures.some.member, sym (c.waited_for.ensures u) ∙ now)),
      λ t u is out waits.
          split (t == slot)
          (λ (same : (t == slot) ≡ true). c.union-found.ensures u ∙ or_right (has_slot c.waiters.found u) _
          (c.waited_for.ensures u ∙ ap (λ x. waits_for (state_of c.args.manager.now) x u) (sym (same_number t slot same)) ∙ waits))
          (λ apart. c.union-found.ensures u ∙ or_left _ _
          (c.waiters.invariant.1 t u is
          (sym (and_true (has_slot left t)) ∙ ap (λ b. has_slot left t && not b) (sym apart) ∙ sym (c.in-Some.ensures.left t) ∙ out) waits)),
      λ u is. c.waiters.invariant.2 u (and_both _ _ (sym (c.in-Some.ensures.left u) ∙ is)).0,
    )
