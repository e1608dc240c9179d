use Rattle.std.specs.Prelude.{ℕ, true, ◌≤◌}
use Rattle.std.proofs.Common.{◌≡◌, ap, subst, sym}
use Rattle.gl_slots.specs.Slots.{has_slot}
use Rattle.gl_slots.specs.declared.slots.Slots.{Slots}
use Rattle.gl_model.specs.State.{age_of}
use Rattle.gl_catalog.specs.Manager.{state_of}
use Rattle.gl_waiting.specs.Resting.{IsChosen, RestingView}
use Rattle.gl_waiting.specs.declared.resting.Whom.{Whom}
use Rattle.gl_waiting.proofs.resting.Resting.choose.Goals as goal

pub returns-in-Longest-clause-some : goal.returns-in-Longest-clause-some
returns-in-Longest-clause-some c = λ u is.
    let s = state_of c.args.manager.now in
    let r = c.args.self.now.resting in
    let same : c.self-in-Longest.inside.slots ≡ r = ap (λ (x : RestingView). x.resting) c.self-in-Longest.view_is in
    subst (λ (x : Whom). (has_slot r u ≡ true) × IsChosen x s r u) (sym c.in-Longest.is)
    (subst (λ (x : Slots). (has_slot x u ≡ true) × ((v : ℕ) → has_slot x v ≡ true → age_of s u ≤ age_of s v)) same (c.longest.ensures.some u is))
