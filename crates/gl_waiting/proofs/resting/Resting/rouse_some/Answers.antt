use Rattle.std.specs.Prelude.{ℕ, Option, None, not, ◌&&◌}
use Rattle.std.proofs.Common.{◌≡◌, ap, rules, subst, sym, ◌∙◌}
use Rattle.gl_modes.proofs.Words.{clash, no, or_left, or_right, same_number}
use Rattle.gl_slots.specs.Slots.{has_slot}
use Rattle.gl_model.specs.State.{is_wait, status_of}
use Rattle.gl_catalog.specs.Manager.{ManagerView, state_of}
use Rattle.gl_waiting.specs.Owned.{resting_of}
use Rattle.gl_waiting.specs.Resting.{RestingView, RestsWell, is_slot}
use Rattle.gl_waiting.proofs.Rests.{none_acts, rest_on}
use Rattle.gl_waiting.proofs.resting.Resting.rouse_some.Goals as goal

-- nobody acts

pub returns-in_default-clause-keeps : goal.returns-in_default-clause-keeps
returns-in_default-clause-keeps c = λ s k law run acts well.
    let none : c.args.slot ≡ None = search rules in
    rest_on s (state_of c.args.waiting.now.manager) k law run c.args.slot c.args.self.now c.args.self.now acts
    (none_acts c.args.slot c.args.self.now.resting none) (λ t x. x) (λ t is waits. absurd (no (sym (ap (λ (o : Option ℕ). is_slot o t) none) ∙ is))) well

-- it waits, or not

pub returns-then-is_waiting-clause-keeps : goal.returns-then-is_waiting-clause-keeps
returns-then-is_waiting-clause-keeps c = λ s k law run acts well.
    rest_on s (state_of c.args.waiting.now.manager) k law run c.args.slot (resting_of c.self.inside)
    (record { resting = c.remove.new.self; crossed = c.insert.new.self }) acts
    (λ u. c.remove.ensures.left u ∙ ap (λ (o : Option ℕ). has_slot c.self.inside.slots u && not (is_slot o u)) (sym c.in-Some.is))
    (λ t x. c.insert.ensures t ∙ or_left _ _ x)
    (λ t is waits. c.insert.ensures t ∙ or_right _ _ (ap (λ (o : Option ℕ). is_slot o t) (sym c.in-Some.is) ∙ is))
    (subst (λ (v : RestingView). RestsWell s v) (sym c.self.view_is) well)

pub returns-else-is_waiting-clause-keeps : goal.returns-else-is_waiting-clause-keeps
returns-else-is_waiting-clause-keeps c = λ s k law run acts well.
    rest_on s (state_of c.args.waiting.now.manager) k law run c.args.slot (resting_of c.self.inside)
    (record { resting = c.remove.new.self; crossed = c.self.inside.crossed }) acts
    (λ u. c.remove.ensures.left u ∙ ap (λ (o : Option ℕ). has_slot c.self.inside.slots u && not (is_slot o u)) (sym c.in-Some.is))
    (λ t x. x)
    (λ t is waits. clash waits
    (ap (λ x. is_wait (status_of (state_of c.args.waiting.now.manager) x))
    (same_number t c.in-Some.slot (ap (λ (o : Option ℕ). is_slot o t) (sym c.in-Some.is) ∙ is))
    ∙ ap (λ (m : ManagerView). is_wait (status_of (state_of m) c.in-Some.slot)) (sym c.manager.ensures) ∙ sym c.is_waiting.ensures
    ∙ c.if-is_waiting.false))
    (subst (λ (v : RestingView). RestsWell s v) (sym c.self.view_is) well)
