-- One that lives on is not passed, and the first is never a victim.
use Rattle.gl_fairness.proofs.Words.{◌&&◌, [], ◌∙◌, ◌∷◌, ◌≡◌, ◌≤◌, ⊎_elim, age_of, and_both, Answer, ap, arith, begins_ahead, Bool, both, clash, comes_before}
use Rattle.gl_fairness.proofs.Words.{Command, cond, count_by, false, is_some, IsLawful, List, range_with_len, refl, SameTurn, SameTxn, since_of, slots, split}
use Rattle.gl_fairness.proofs.Words.{State, status_of, Step, steps_keep_law, subst, sym, Told, true, ℕ}
use Rattle.gl_graph.proofs.Counts.{count_cons}
use Rattle.gl_waits.proofs.Earlier.{not_later}
use Rattle.gl_steps.proofs.Detection.{steps_keep_settings}
use Rattle.gl_fairness.specs.Turns.{BecomesVictim, ComesFirst, FirstIsNeverVictim, NoMoreComeBefore}
use Rattle.gl_fairness.proofs.VictimOrder.{victim_after_a_living}
use Rattle.gl_fairness.proofs.Turns.{IsNew, step_turn}

-- what passes fewer is counted less
count_less : (p q : ℕ → Bool) (us : List ℕ) → ((u : ℕ) → p u ≡ true → q u ≡ true) → count_by p us ≤ count_by q us
count_less p q [] sub = omega arith
count_less p q (u ∷ us) sub =
    let c = count_cons p u us in let d = count_cons q u us in let rest = count_less p q us sub in
    let here : cond (p u) 1 0 ≤ cond (q u) 1 0 = one (p u) (q u) (sub u) in omega arith
  where
    one : (a b : Bool) → (a ≡ true → b ≡ true) → cond a 1 0 ≤ cond b 1 0
    one true b h = subst (λ x. 1 ≤ cond x 1 0) (sym (h refl)) (omega arith)
    one false b h = omega arith

-- one that comes before v after a step, by which none begins for earlier work, came before it already
module _ (s s' : State) (c : Command) (a : Answer) (told : Told) (v : ℕ) (law : IsLawful s)
    (ahead : begins_ahead (since_of s v) c ≡ false) (step : Step s c a told s') (stays : SameTxn s s' v) where
  own : SameTurn (s.txns v) (s'.txns v)
  own =
      ⊎_elim (λ same. same)
      (λ new. let low = (law.ages v stays.was).1 in let e = new.age in let f = stays.age in absurd (omega (arith, low, e, f)))
      (step_turn s s' c a told v step stays.is)

  -- a newcomer does not
  new_behind : (u : ℕ) → IsNew s u c (s'.txns u) → comes_before s' u v ≡ false
  new_behind u new =
      let low = law.known v stays.was in let age = (law.ages v stays.was).1 in let e = new.age in let f = own.age in
      not_later (since_of s') (age_of s') v u
      (subst (λ x. x ≤ since_of s' u) (sym own.since) (new.behind (since_of s v) (omega (arith, age, low)) ahead)) (omega (arith, age, e, f))

  came_before : (u : ℕ) → is_some (s'.txns u) ≡ true → comes_before s' u v ≡ true → (is_some (s.txns u) ≡ true) × (comes_before s u v ≡ true)
  came_before u lives before = ⊎_elim
      (λ same. let su = same.since in let au = same.age in let sv = own.since in let av = own.age in
      let e : comes_before s u v ≡ comes_before s' u v = cc in (sym same.there ∙ lives, e ∙ before))
      (λ new. clash before (new_behind u new))
      (step_turn s s' c a told u step lives)

pub no_more_come_before : NoMoreComeBefore
no_more_come_before s s' c a told v law ahead step stays =
    subst (λ k. count_by (λ u. is_some (s'.txns u) && comes_before s' u v) (range_with_len 0 k)
    ≤ count_by (λ u. is_some (s.txns u) && comes_before s u v) (slots s)) (sym (ap (λ x. x.2) (steps_keep_settings s s' c a told step)))
    (count_less (λ u. is_some (s'.txns u) && comes_before s' u v) (λ u. is_some (s.txns u) && comes_before s u v) (slots s) came)
  where
    came : (u : ℕ) → (is_some (s'.txns u) && comes_before s' u v) ≡ true → (is_some (s.txns u) && comes_before s u v) ≡ true
    came u h =
        let parts = and_both _ _ h in let was = came_before s s' c a told v law ahead step stays u parts.0 parts.1 in
        both _ _ was.0 was.1

pub first_is_never_victim : FirstIsNeverVictim
first_is_never_victim s s' [] [] v law young first run =
    (subst (λ x. ComesFirst x v) (sym run.1) first, λ becomes. becomes.not_before (ap (λ (x : State). status_of x v) (sym run.1) ∙ becomes.after))
first_is_never_victim s s' [] (r ∷ rs) v law young first run = absurd run
first_is_never_victim s s' (c ∷ cs) [] v law young first run = absurd run
first_is_never_victim s s' (c ∷ cs) (r ∷ rs) v law young first run =
    let mid = run.0 in
    let rest = first_is_never_victim mid s' cs rs v (steps_keep_law s mid c r.0 r.1 law run.1)
    (ap (λ x. x.1) (steps_keep_settings s mid c r.0 r.1 run.1) ∙ young) stays_first run.4 in
    (rest.0, λ becomes. rest.1 (record { not_before = λ e. not_now (record { not_before = becomes.not_before; after = e }); after = becomes.after }))
  where
    stays_first : ComesFirst run.0 v
    stays_first u lives = split (comes_before run.0 u v)
        (λ h. let was = came_before s run.0 c r.0 r.1 v law run.3 run.1 run.2 u lives h in clash was.1 (first u was.0)) (λ h. h)

    not_now : BecomesVictim s run.0 v → ⊥
    not_now becomes = let one = victim_after_a_living s run.0 c r.0 r.1 v law young run.1 becomes in clash one.2 (first one.0 one.1)
