-- Waiters whose modes do not meet the rule of the graph, and queues without them. For moves.
use Rattle.gl_model.proofs.Words.{◌&&◌, ◌+◌, ◌<◌, ◌==◌, [], ◌||◌, ◌∙◌, ◌∷◌, ◌≡◌, and_both, ap, ap₂, arith, Bool, both, cases_of, clash, false, filter}
use Rattle.gl_model.proofs.Words.{filter-append, fits, front, get_or, has_slot, intends_over, is_among_waiters, is_none, is_waiter, length, List, list_all}
use Rattle.gl_model.proofs.Words.{list_any_at, Members, Mode, nat_tests, NodeId, not, not-true, number_same, or_left, or_right, refl, rule_refusal, Slots}
use Rattle.gl_model.proofs.Words.{split, sym, take, take_more, true, Waiter, without_waiter, ℕ}
use Rattle.gl_model.proofs.law.Tests.{rule_met}
use Rattle.gl_model.proofs.queues.Edits.{filter_no, filter_yes}
use Rattle.gl_model.proofs.queues.Waiters.{among_append, if-false, if-true}

-- the rule of the graph is met if it does not refuse
pub rule_allows : (held : NodeId → Mode) (ps : List NodeId) (m : Mode) → is_none (rule_refusal held ps m) ≡ intends_over held ps m
rule_allows held ps m = split (intends_over held ps m) (λ e. ap is_none (if-true _ e) ∙ sym e)
    (λ e. cases_of (rule_refusal held ps m) (λ k. clash (rule_met held ps m k) e) (λ r k. ap is_none k ∙ sym e))

-- those of a front that pass a test, with one more waiter
pub among_more : (f : Waiter → Bool) (q : List Waiter) (i : ℕ) (d : Waiter) → i < length q → (u : ℕ)
    → is_among_waiters u (filter f (take (i + 1) q)) ≡ (is_among_waiters u (filter f (take i q)) || (f (get_or q i d) && ((get_or q i d).0 == u)))
among_more f q i d low u =
    ap (λ l. is_among_waiters u (filter f l)) (take_more q i d low) ∙ ap (is_among_waiters u) (filter-append f (take i q) (get_or q i d ∷ []))
    ∙ among_append u (filter f (take i q)) (filter f (get_or q i d ∷ [])) ∙ ap (λ b. is_among_waiters u (filter f (take i q)) || b) (one (get_or q i d))
  where
    one : (w : Waiter) → is_among_waiters u (filter f (w ∷ [])) ≡ (f w && (w.0 == u))
    one w = grind (arith, nat_tests, f w)

-- the set of those so far that pass the test
abbrev pub IsSetOf : (Waiter → Bool) → List Waiter → Slots → Type 0
IsSetOf f q set = (u : ℕ) → has_slot set u ≡ is_among_waiters u (filter f q)

module _ (f : Waiter → Bool) (q : List Waiter) (i : ℕ) (d w : Waiter) (low : i < length q) (here : w ≡ get_or q i d) (set : Slots)
    (so_far : IsSetOf f (take i q) set) where
  -- one waiter more passes
  pub set-with : (after : Slots) → f w ≡ true → ((u : ℕ) → has_slot after u ≡ (has_slot set u || (u == w.0))) → IsSetOf f (take (i + 1) q) after
  set-with after passes added u = added u ∙ ap₂ (λ a b. a || b) (so_far u) (turned u ∙ ap (λ b. b && (w.0 == u)) (sym passes))
      ∙ sym (among_more f q i d low u ∙ ap (λ v. is_among_waiters u (filter f (take i q)) || (f v && (v.0 == u))) (sym here))
    where
      turned : (u : ℕ) → (u == w.0) ≡ (w.0 == u)
      turned u = grind (arith, nat_tests)

  -- or does not
  pub set-without : f w ≡ false → IsSetOf f (take (i + 1) q) set
  set-without fails u =
      so_far u ∙ last (is_among_waiters u (filter f (take i q))) ∙ ap (λ b. is_among_waiters u (filter f (take i q)) || (b && (w.0 == u))) (sym fails)
      ∙ sym (among_more f q i d low u ∙ ap (λ v. is_among_waiters u (filter f (take i q)) || (f v && (v.0 == u))) (sym here))
    where
      last : (b : Bool) → b ≡ (b || false)
      last b = grind (arith, nat_tests)

-- the slot at a place is a waiter
pub among_at : (q q' : List Waiter) (i : ℕ) (d : Waiter) → q ≡ q' → i < length q → is_among_waiters (get_or q i d).0 q' ≡ true
among_at q q' i d same low = ap (is_among_waiters (get_or q i d).0) (sym same) ∙ list_any_at (is_waiter (get_or q i d).0) q i d low (number_same _ _ refl)

-- tests of a queue

pub filter_all : (r : Waiter → Bool) (q : List Waiter) → list_all r q ≡ true → filter r q ≡ q
filter_all r [] h = refl
filter_all r (w ∷ q) h = grind (arith, nat_tests, r w, filter_all r q)

pub all_filtered : (p r : Waiter → Bool) (q : List Waiter) → list_all p q ≡ true → list_all p (filter r q) ≡ true
all_filtered p r [] h = refl
all_filtered p r (w ∷ q) h = grind (arith, nat_tests, p w, r w, all_filtered p r q)

-- what passes for the waits of each slot passes for all
pub all_waits : (p : Waiter → Bool) (q : List Waiter) → ((u : ℕ) → is_among_waiters u q ≡ true → list_all p (filter (is_waiter u) q) ≡ true)
    → list_all p q ≡ true
all_waits p [] each = refl
all_waits p (w ∷ q) each =
    let own : is_waiter w.0 w ≡ true = number_same w.0 w.0 refl in
    both (p w) _ (and_both (p w) _ (sym (ap (list_all p) (filter_yes (is_waiter w.0) w q own)) ∙ each w.0 (or_left _ _ own))).0 (all_waits p q (λ u h.
    let all = each u (or_right (is_waiter u w) _ h) in
    split (is_waiter u w) (λ e. (and_both (p w) _ (sym (ap (list_all p) (filter_yes (is_waiter u) w q e)) ∙ all)).1)
    (λ e. sym (ap (list_all p) (filter_no (is_waiter u) w q e)) ∙ all)))

-- what passes for those that pass another test
pub all_of_some : (p g : Waiter → Bool) (q : List Waiter) → list_all g (filter p q) ≡ true → list_all (λ w. not (p w) || g w) q ≡ true
all_of_some p g [] h = refl
all_of_some p g (w ∷ q) h = grind (arith, nat_tests, p w, g w, all_of_some p g q)

-- a waiter that is not among those that pass is among those that do not
pub among_failing : (f : Waiter → Bool) (u : ℕ) (q : List Waiter) → is_among_waiters u q ≡ true → is_among_waiters u (filter f q) ≡ false
    → is_among_waiters u (filter (λ w. not (f w)) q) ≡ true
among_failing f u [] h k = h
among_failing f u (w ∷ q) h k = grind (arith, nat_tests, f w, w.0 == u, among_failing f u q)

-- those that fail the test are all chosen by slot
pub all_or_chosen : (f : Waiter → Bool) (p : ℕ → Bool) (q : List Waiter) → ((u : ℕ) → is_among_waiters u (filter (λ w. not (f w)) q) ≡ true → p u ≡ true)
    → list_all (λ w. f w || p w.0) q ≡ true
all_or_chosen f p [] chosen = refl
all_or_chosen f p (w ∷ q) chosen =
    split (f w) (λ e. both (f w || p w.0) _ (or_left (f w) (p w.0) e)
    (all_or_chosen f p q (λ u h. chosen u (ap (is_among_waiters u) (filter_no (λ v. not (f v)) w q (ap not e)) ∙ h)))) (λ e.
    let cons : filter (λ v. not (f v)) (w ∷ q) ≡ w ∷ filter (λ v. not (f v)) q = filter_yes (λ v. not (f v)) w q (ap not e) in
    both (f w || p w.0) _ (or_right (f w) (p w.0) (chosen w.0 (ap (is_among_waiters w.0) cons ∙ or_left (w.0 == w.0) _ (number_same w.0 w.0 refl))))
    (all_or_chosen f p q (λ u h. chosen u (ap (is_among_waiters u) cons ∙ or_right (w.0 == u) _ h))))

-- one slot less is chosen, whose waits fail the test
pub without_chosen : (f : Waiter → Bool) (p p' : ℕ → Bool) (u : ℕ) (q : List Waiter) → list_all (λ w. not (is_waiter u w) || not (f w)) q ≡ true
    → ((x : ℕ) → p' x ≡ (p x && not (x == u))) → without_waiter u (filter (λ w. f w || p w.0) q) ≡ filter (λ w. f w || p' w.0) q
without_chosen f p p' u [] fails less = refl
without_chosen f p p' u (w ∷ q) fails less =
    let two = and_both (not (w.0 == u) || not (f w)) _ fails in
    grind (arith, nat_tests, f w, p w.0, w.0 == u, two.0, less w.0, without_chosen f p p' u q two.1 less)

-- if nobody fits, nobody is granted
pub stuck_front : (most : ℕ) (g : Members) (q : List Waiter) → list_all (λ w. not (fits most g w.0 w.1)) q ≡ true → front most g q ≡ []
stuck_front most g [] h = refl
stuck_front most g (w ∷ q) h = if-false _ (not-true (fits most g w.0 w.1) (and_both _ _ h).0)
