-- A wait ends without a grant: who is granted, who still waits, and what is told. For cancels and victims.
use Rattle.gl_model.proofs.Words.{◌<◌, ◌==◌, ◌∙◌, ◌≡◌, ◌⊎◌, ⊎_elim, age_of, ap, ap₂, arith, Bool, clash, Condemned, condemned, false, front_at, grant_notice}
use Rattle.gl_model.proofs.Words.{granted_at, holds, if◌then◌else◌, inl, inr, is_among_waiters, is_live, is_some, is_wait, is_waiting_at, IsBetween, IsOrderly}
use Rattle.gl_model.proofs.Words.{members, Mode, mode_given, nat_tests, NL, NodeId, None, not, not_true, Notice, notices_in, Option, pumped, refl, same_mode}
use Rattle.gl_model.proofs.Words.{same_node-equal, same_node-refl, same_number, Some, split, State, Status, status_in, status_of, subst, sym, Told, told_to}
use Rattle.gl_model.proofs.Words.{true, TxnId, Waiting, waits_at, WaitWell, WakesTold, without_wait, ℕ}
use Rattle.gl_model.specs.declared.answers.Notice.TheVariants as notice
use Rattle.gl_model.proofs.law.Keeps.{txn_there, waiting_is, woken_some, woken_waits}
use Rattle.gl_model.proofs.law.Settle.{wait_is}
use Rattle.gl_model.proofs.law.Takes.{IsQuiet, restatus_quiet}
use Rattle.gl_model.proofs.queues.Edits.{out_of_without}
use Rattle.gl_model.proofs.queues.Waiters.{grants_other, if-false}
use Rattle.gl_model.proofs.telling.Fronts.{between_here, front_stands, granted_here, waits_only, waits_there, well_without}
use Rattle.gl_model.proofs.telling.Between.{between_pumped, between_without_wait, granted_stands, victim_tells, without_wait_other, without_wait_own}

-- A wait ends without a grant, and the node's waiters are granted from the front: who is granted, and who still waits.

module _ (s : State) (o : IsOrderly s) (t : ℕ) (n : NodeId) (st : Status) (quiet : IsQuiet st) (waits : is_waiting_at s t n ≡ true) where
  abbrev b : State
  b = without_wait s t st

  abbrev after : State
  after = pumped b (is_waiting_at s t)

  well : WaitWell b n
  well = well_without s o t st n

  -- the one whose wait ended is not granted
  pub given_up_out : is_among_waiters t (front_at b n) ≡ false
  given_up_out = not_true _ (λ h. (out_of_without t t (s.queue n) (front_stands b n well t h)).1 refl)

  -- one that still waits is another, which was not granted and waited before
  pub waits_still : (u : ℕ) → is_wait (status_of after u) ≡ true → ((u == t) ≡ false) × (is_among_waiters u (front_at b n) ≡ false)
      × (is_wait (status_of s u) ≡ true)
  waits_still u h = (other, not_true _ (asleep wait.0 wait.1 was), ap (λ x. is_wait (status_in x)) (sym (without_wait_other s t st u other)) ∙ ap is_wait was.0)
    where
      wait : (q : NodeId) × (w : Mode) × (status_of after u ≡ Some (Waiting q w))
      wait = wait_is (status_of after u) h

      was : (status_of b u ≡ Some (Waiting wait.0 wait.1)) × (is_among_waiters u (granted_at b (is_waiting_at s t) wait.0) ≡ false)
      was = woken_waits (granted_at b (is_waiting_at s t)) u wait.0 wait.1 (b.txns u) wait.2

      other : (u == t) ≡ false
      other = not_true _ (λ e. restatus_quiet st quiet (s.txns t) wait.0 wait.1 (ap status_in (sym (without_wait_own s t st))
          ∙ ap (status_of b) (sym (same_number u t e)) ∙ was.0))

      asleep : (q : NodeId) (w : Mode) → (status_of b u ≡ Some (Waiting q w)) × (is_among_waiters u (granted_at b (is_waiting_at s t) q) ≡ false)
          → is_among_waiters u (front_at b n) ≡ true → ⊥
      asleep q w was k =
          let here = same_node-equal q n (ap (λ x. waits_at x n) (sym was.0) ∙ well.waits_are u (front_stands b n well u k)) in
          clash (ap (is_among_waiters u) (granted_here b n) ∙ k) (ap₂ (λ f x. is_among_waiters u (granted_at b f x)) (sym (waits_only s t n waits)) (sym here)
          ∙ was.1)

-- After a wait has ended, and its node granted from its front, the state is as orderly as it was.

-- if the same slots are taken, and each holder held or waited before, all states in between are orderly
pub orderly_between : (s now : State) → IsOrderly s → IsBetween s now → now.most ≡ s.most → ((u : ℕ) → is_some (now.txns u) ≡ is_some (s.txns u))
    → ((u : ℕ) (q : NodeId) → holds (members now q) u ≡ true → (holds (members s q) u ≡ true) ⊎ (is_among_waiters u (s.queue q) ≡ true)) → IsOrderly now
orderly_between s now o between most same held = record {
  holders = λ u q h. same u ∙ ⊎_elim (λ k. o.holders u q k) (λ k. txn_there (s.txns u) _ (waits_there s o u q k).1) (held u q h);
  holders_live = λ u q h. ap (λ g. is_live g q) between.graph ∙ ⊎_elim (λ k. o.holders_live u q k) (λ k. o.waiters_live u q k) (held u q h);
  waiters_live = λ u q h. let w = waiting_is (status_of now u) q (between.waits_are u q h) in ap (λ g. is_live g q) between.graph
      ∙ between.live u q w.0 (between.waited u q w.0 w.1);
  waits_are = between.waits_are;
  one_wait = λ u q m h. (between.one_wait u q m h, (o.one_wait u q m (between.waited u q m h)).1);
  below = λ u h. subst (λ (k : ℕ). u < k) (sym most) (o.below u (sym (same u) ∙ h));
}

pub between_withdrawn : (s now : State) (t : ℕ) (st : Status) (chosen : NodeId → Bool) → IsQuiet st → IsBetween s now
    → IsBetween s (pumped (without_wait now t st) chosen)
between_withdrawn s now t st chosen quiet between = between_pumped s (without_wait now t st) (between_without_wait s now between t st quiet) chosen

module _ (s : State) (o : IsOrderly s) (t : ℕ) (st : Status) (chosen : NodeId → Bool) (quiet : IsQuiet st) where
  abbrev left : State
  left = without_wait s t st

  same_taken : (u : ℕ) → is_some (left.txns u) ≡ is_some (s.txns u)
  same_taken u = grind (arith, nat_tests, same_number)

  pub orderly_without : IsOrderly (pumped (without_wait s t st) chosen)
  orderly_without = orderly_between s (pumped left chosen) o (between_withdrawn s s t st chosen quiet (between_here s o)) refl
      (λ u. woken_some (granted_at left chosen) u (left.txns u) ∙ same_taken u) (λ u q h. split (is_among_waiters u (granted_at left chosen q))
      (λ g. inr (out_of_without t u (s.queue q) (granted_stands left chosen u q g)).0)
      (λ g. inl (ap (λ m. not (same_mode m NL)) (sym (grants_other (granted_at left chosen q) (members left q) u g)) ∙ h)))

-- A victim's wait ends: what is told agrees with the changes, and one that still waits is told nothing.

-- those that t's node grants once t is condemned are told so, and t is told that it is a victim
abbrev pub TellsVictim : State → ℕ → NodeId → Told → Told → Type 0
TellsVictim s t n told told' =
    (u : ℕ) → notices_in told' u ≡ (if u == t then Some (record { slot = t; age = age_of s t }, notice.Victim)
    else (if is_among_waiters u (front_at (without_wait s t Condemned) n) then grant_notice s.txns n (front_at (without_wait s t Condemned) n) u
    else notices_in told u))

-- two tests that do not both pass, in either order
swapped : {A : Type 0} (j k : Bool) (x y z : A) → (j ≡ true → k ≡ false) → (if j then x else (if k then y else z)) ≡ (if k then y else (if j then x else z))
swapped j k x y z h1 = grind (arith, nat_tests)

module _ (s : State) (o : IsOrderly s) (t : ℕ) (n : NodeId) (m : Mode) (waits : status_of s t ≡ Some (Waiting n m)) where
  abbrev after_victim : State
  after_victim = without_wait s t Condemned

  abbrev in_front : ℕ → Bool
  in_front u = is_among_waiters u (front_at after_victim n)

  -- what t is told, with this age
  abbrev victim : ℕ → Option (TxnId × Notice)
  victim a = Some (record { slot = t; age = a }, notice.Victim)

  here : is_waiting_at s t n ≡ true
  here = ap (λ x. waits_at x n) waits ∙ same_node-refl n

  -- the condemned one is not granted
  pub victim_out : in_front t ≡ false
  victim_out = given_up_out s o t n Condemned (λ q w k. cc) here

  -- so it is not told before its condemnation
  pub victim_absent : (told mid : Told) → WakesTold s.txns n (front_at after_victim n) told mid → notices_in told t ≡ None → notices_in mid t ≡ None
  victim_absent told mid wakes none = wakes.notices t ∙ if-false _ victim_out ∙ none

  module _ (told told' : Told) (tells : TellsVictim s t n told told') where
    pub victim_told : (start : State) → IsBetween start s → ((u : ℕ) → notices_in told u ≡ told_to start s u) → (u : ℕ)
        → notices_in told' u ≡ told_to start (condemned s t) u
    victim_told start between same u = tells u ∙ swapped (u == t) (in_front u) _ _ _ (λ e. ap in_front (same_number u t e) ∙ victim_out)
        ∙ ap (λ (a : ℕ). if in_front u then Some (record { slot = u; age = a }, notice.Granted n (mode_given (front_at after_victim n) u))
        else (if u == t then victim (age_of s t) else notices_in told u)) (between.ages u)
        ∙ ap₂ (λ (a : ℕ) x. if in_front u then grant_notice start.txns n (front_at after_victim n) u else (if u == t then victim a else x)) (between.ages t)
        (same u)
        ∙ sym (victim_tells start s t n m waits between u)

    pub victim_untold : ((u : ℕ) → is_wait (status_of s u) ≡ true → notices_in told u ≡ None) → (u : ℕ) → is_wait (status_of (condemned s t) u) ≡ true
        → notices_in told' u ≡ None
    victim_untold untold u h =
        let still = waits_still s o t n Condemned (λ q w k. cc) here u h in
        tells u ∙ ap₂ (λ j k. if j then victim (age_of s t) else
        (if k then grant_notice s.txns n (front_at after_victim n) u else notices_in told u)) still.0 still.1
        ∙ untold u still.2
