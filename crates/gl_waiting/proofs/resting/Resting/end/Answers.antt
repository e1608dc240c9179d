use Rattle.std.specs.Prelude.{ℕ, true, false, not, ◌&&◌, ◌||◌, ◌==◌, Some}
use Rattle.std.proofs.Common.{◌≡◌, ap, rules, subst, sym, ◌∙◌}
use Rattle.gl_modes.proofs.Words.{and_both, clash, not_true}
use Rattle.gl_slots.specs.Slots.{has_slot}
use Rattle.gl_slots.specs.declared.slots.Slots.{Slots}
use Rattle.gl_catalog.specs.Manager.{ManagerView, state_of}
use Rattle.gl_waiting.specs.Resting.{IsChosen, IsQuiet, Rouses, is_counted}
use Rattle.gl_waiting.proofs.EndedRests.{chooses_first, chooses_more, ends_first, ends_more, rests_still}
use Rattle.gl_waiting.proofs.resting.Resting.end.Goals as goal

-- the first of them

pub each-init : goal.each-init
each-init c =
    let v = c.args.waiting.now in
    let v' = c.end_one.new.waiting in
    let r = c.args.self.now.resting in
    let first = c.in-Some.first in
    let last = c.end_one.ensures.last in
    let rouses = subst (λ (x : Slots). Rouses (Some first) v x v' c.end_one.new.self.resting) c.choose-chosen.ensures.same c.end_one.ensures.rouses in
    let chosen : (u : ℕ) → has_slot c.choose-chosen.result u ≡ true → (has_slot r u ≡ true) × IsChosen c.args.whom (state_of v.manager) r u =
    subst (λ (m : ManagerView). (u : ℕ) → has_slot c.choose-chosen.result u ≡ true → (has_slot r u ≡ true) × IsChosen c.args.whom (state_of m) r u)
    c.manager.ensures c.choose-chosen.ensures.some in
    let one = chosen first c.in-Some.ensures.some.member in
    let slots : (u : ℕ) → has_slot c.end_one.result.0.slots u ≡ (is_counted v v' && (u == c.end_one.result.0.last.slot)) =
    λ u. c.end_one.ensures.slots u ∙ ap (λ b. b || (is_counted v v' && (u == first))) (c.empty.ensures.none u)
    ∙ ap (λ x. is_counted v v' && (u == x)) (sym last) in (
      ends_first c.args.number v v' c.end_one.result.0 c.end_one.new.told.items c.end_one.result.1 c.end_one.ensures.commits slots,
      chooses_first c.args.whom v v' c.end_one.result.0 slots r c.end_one.new.self.resting
          (subst (λ x. Rouses (Some x) v r v' c.end_one.new.self.resting) (sym last) rouses)
          (subst (λ x. (has_slot r x ≡ true) × IsChosen c.args.whom (state_of v.manager) r x) (sym last) one),
      c.end_one.ensures.keeps,
      c.beside_one-left.ensures.alone,
      λ u is.
          let parts = and_both _ _ (sym (c.in-Some.ensures.left u) ∙ c.beside_one-left.ensures.among u is) in
          let was = chosen u parts.0 in
          (rests_still first v r v' c.end_one.new.self.resting rouses u parts.1 was.0, was.0, was.1),
    )

-- one more

pub end_one-requires-in-each-clause-rests : goal.end_one-requires-in-each-clause-rests
end_one-requires-in-each-clause-rests c = (c.each.invariant.4 c.in-Some-take_lowest.slot c.in-Some-take_lowest.ensures.some.member).0

pub end_one-requires-in-each-clause-fresh : goal.end_one-requires-in-each-clause-fresh
end_one-requires-in-each-clause-fresh c =
    let slot = c.in-Some-take_lowest.slot in
    let rests = (c.each.invariant.4 slot c.in-Some-take_lowest.ensures.some.member).0 in
    not_true _ (λ ended. clash (and_both _ _ (sym (c.each.invariant.1.rests slot) ∙ rests)).1 (ap not ended))

pub each-preserved : goal.each-preserved
each-preserved c =
    let v = c.each.waiting in
    let v' = c.end_one-in-each.new.waiting in
    let e = c.each.ended in
    let e' = c.end_one-in-each.result.0 in
    let told' = c.end_one-in-each.new.told.items in
    let slot = c.in-Some-take_lowest.slot in
    let r = c.args.self.now.resting in
    let member = c.in-Some-take_lowest.ensures.some.member in
    let one = c.each.invariant.4 slot member in
    let last = c.end_one-in-each.ensures.last in
    let quiet : IsQuiet e c.each.told.items c.each.off = search rules in
    let fresh : has_slot e.slots slot ≡ false =
    not_true _ (λ ended. clash (and_both _ _ (sym (c.each.invariant.1.rests slot) ∙ one.0)).1 (ap not ended)) in
    let rouses = c.end_one-in-each.ensures.rouses in
    let slots : (u : ℕ) → has_slot e'.slots u ≡ (has_slot e.slots u || (is_counted v v' && (u == e'.last.slot))) =
    λ u. c.end_one-in-each.ensures.slots u ∙ ap (λ x. has_slot e.slots u || (is_counted v v' && (u == x))) (sym last) in (
      ends_more c.args.number c.args.waiting.now v v' e e' c.each.told.items told' c.each.off c.end_one-in-each.result.1 c.each.invariant.0 quiet
          c.end_one-in-each.ensures.commits slots (ap (has_slot e.slots) last ∙ fresh) (λ alone. clash member (c.each.invariant.3 alone slot)),
      chooses_more c.args.number c.args.waiting.now v v' e e' c.each.told.items told' c.each.off c.end_one-in-each.result.1 c.each.invariant.0 quiet
          c.end_one-in-each.ensures.commits slots c.args.whom r c.each.self.resting c.end_one-in-each.new.self.resting c.each.invariant.1
          (subst (λ x. Rouses (Some x) v c.each.self.resting v' c.end_one-in-each.new.self.resting) (sym last) rouses)
          (subst (λ x. (has_slot r x ≡ true) × IsChosen c.args.whom (state_of c.args.waiting.now.manager) r x) (sym last) (one.1, one.2)),
      c.end_one-in-each.ensures.keeps,
      λ alone. absurd (clash member (c.each.invariant.3 alone slot)),
      λ u is.
          let parts = and_both _ _ (sym (c.in-Some-take_lowest.ensures.left u) ∙ is) in
          let was = c.each.invariant.4 u parts.0 in
          (rests_still slot v c.each.self.resting v' c.end_one-in-each.new.self.resting rouses u parts.1 was.0, was.1, was.2),
    )
