-- A wait is passed a bounded number of times.
use Rattle.gl_fairness.proofs.Words.{◌+◌, [], ◌∷◌, ◌≡◌, ◌≤◌, and_both, Answer, ap, arith, Bool, both, Command, cond, count_by, false, if◌then◌else◌}
use Rattle.gl_fairness.proofs.Words.{is_at_least, IsLawful, List, Mode, nat_lt, nat_tests, NodeId, not, or_left, range_with_len, refl, same_mode, slots, split}
use Rattle.gl_fairness.proofs.Words.{State, steps_keep_law, subst, sym, Told, true, TxnId, WaitsThrough, ℕ}
use Rattle.std.specs.Prelude.{◌*◌, ◌<◌, nat_le}
use Rattle.std.specs.List.{sum_by}
use Rattle.std.proofs.lemmas.List.Sums.{sum_by-cons}
use Rattle.gl_modes.proofs.Each.{every2-true, implied, implies}
use Rattle.gl_graph.proofs.Counts.{count_cons}
use Rattle.gl_fairness.specs.Passed.{EachPassesAtMost, is_granted_past, PassedAtMost, passes, passes_left, passes_left_to, passes_of, passes_through}
use Rattle.gl_fairness.specs.Passed.{PassesAreSpent, raises_left, RaisesEnd}
use Rattle.gl_fairness.specs.Waiting.{stands_before}
use Rattle.gl_fairness.proofs.Before.{KeepsBefore}
use Rattle.gl_fairness.proofs.Served.{other_slot, waits_first}
use Rattle.gl_fairness.proofs.Steps.{step_before}

-- What a raise leaves.

lower : (a b : ℕ) → nat_lt a b ≡ true → a < b
lower a b h = grind (arith, nat_tests)

no_higher : (a b : ℕ) → nat_le a b ≡ true → a ≤ b
no_higher a b h = grind (arith, nat_tests)

other_mode : (b : Bool) → b ≡ false → not b ≡ true
other_mode b h = ap not h

pub raises_end : RaisesEnd
raises_end a b h differ = lower (raises_left b) (raises_left a) (implied _ _ (implied _ _
    (every2-true (λ x y. implies (is_at_least y x) (implies (not (same_mode y x)) (nat_lt (raises_left y) (raises_left x)))) refl a b) h) (other_mode _ differ))

no_more_raises : (a b : Mode) → is_at_least b a ≡ true → raises_left b ≤ raises_left a
no_more_raises a b h = no_higher (raises_left b) (raises_left a)
    (implied _ _ (every2-true (λ x y. implies (is_at_least y x) (nat_le (raises_left y) (raises_left x))) refl a b) h)

few_raises : (a : Mode) → raises_left a ≤ 4
few_raises a = no_higher (raises_left a) 4 (every2-true (λ x y. nat_le (raises_left x) 4) refl a a)

-- Sums over slots.

-- if each slot has spent what it counts, all have
spent : (p : ℕ → Bool) (f g : ℕ → ℕ) (us : List ℕ) → ((u : ℕ) → cond (p u) 1 0 + g u ≤ f u) → count_by p us + sum_by g us ≤ sum_by f us
spent p f g [] each = omega arith
spent p f g (u ∷ us) each =
    let here = each u in let rest = spent p f g us each in
    let c = count_cons p u us in let b = sum_by-cons g u us in let a = sum_by-cons f u us in
    omega arith

-- if each slot that counts has at most four
at_most_four : (p : ℕ → Bool) (f : ℕ → ℕ) (us : List ℕ) → ((u : ℕ) → f u ≤ 4) → sum_by (λ u. if p u then f u else 0) us ≤ 4 * count_by p us
at_most_four p f [] each = omega arith
at_most_four p f (u ∷ us) each =
    let rest = at_most_four p f us each in let c = count_cons p u us in let a = sum_by-cons (λ v. if p v then f v else 0) u us in
    let here = one (p u) in omega arith
  where
    one : (b : Bool) → (if b then f u else 0) ≤ 4 * cond b 1 0
    one true = let four = each u in omega arith
    one false = omega arith

-- One slot over a step.
module _ (s s' : State) (t : TxnId) (n : NodeId) (kept : KeepsBefore s s' t.slot n) (u : ℕ) where
  abbrev left : State → ℕ
  left x = passes_left_to x t n u

  left_is : (x : State) → stands_before x t n u ≡ true → left x ≡ raises_left (x.held u n)
  left_is x h = ap (λ b. if b then raises_left (x.held u n) else 0) h

  stood : stands_before s' t n u ≡ true → stands_before s t n u ≡ true
  stood h = let parts = and_both _ _ h in both _ _ parts.0 (kept.stood u (other_slot u t.slot parts.0) parts.1)

  no_less : stands_before s' t n u ≡ true → is_at_least (s'.held u n) (s.held u n) ≡ true
  no_less h = let parts = and_both _ _ h in kept.no_less u (other_slot u t.slot parts.0) parts.1

  not_same : not (same_mode (s'.held u n) (s.held u n)) ≡ true → same_mode (s'.held u n) (s.held u n) ≡ false
  not_same h = grind (arith, nat_tests)

  abbrev granted_now : ℕ
  granted_now = cond (is_granted_past s s' t n u) 1 0

  -- a grant past t is a raise of one before it
  raised_before : is_granted_past s s' t n u ≡ true → (stands_before s' t n u ≡ true) × (raises_left (s'.held u n) < raises_left (s.held u n))
  raised_before e =
      let other = and_both _ _ e in let parts = and_both _ _ other.1 in
      let now : stands_before s' t n u ≡ true = both _ _ other.0 (or_left _ _ parts.0) in
      (now, raises_end (s.held u n) (s'.held u n) (no_less now) (not_same parts.1))

  granted_spent : is_granted_past s s' t n u ≡ true → granted_now + left s' ≤ left s
  granted_spent e =
      let raised : (stands_before s' t n u ≡ true) × (raises_left (s'.held u n) < raises_left (s.held u n)) = raised_before e in
      let was : left s ≡ raises_left (s.held u n) = left_is s (stood raised.0) in let is : left s' ≡ raises_left (s'.held u n) = left_is s' raised.0 in
      let one : granted_now ≡ 1 = ap (λ x. cond x 1 0) e in
      omega arith

  -- and none before t gets more raises
  quiet_spent : is_granted_past s s' t n u ≡ false → granted_now + left s' ≤ left s
  quiet_spent e =
      let none : granted_now ≡ 0 = ap (λ x. cond x 1 0) e in
      split (stands_before s' t n u) (λ now.
      let less : raises_left (s'.held u n) ≤ raises_left (s.held u n) = no_more_raises (s.held u n) (s'.held u n) (no_less now) in
      let was : left s ≡ raises_left (s.held u n) = left_is s (stood now) in let is : left s' ≡ raises_left (s'.held u n) = left_is s' now in
      omega arith)
      (λ gone. let is : left s' ≡ 0 = ap (λ x. if x then raises_left (s'.held u n) else 0) gone in omega arith)

  slot_spent : granted_now + left s' ≤ left s
  slot_spent = split (is_granted_past s s' t n u) granted_spent quiet_spent

pub passes_are_spent : PassesAreSpent
passes_are_spent s s' c a told t n law step begin end =
    let kept = step_before s s' c a told t n law step begin end in
    subst (λ k. passes s s' t n + sum_by (λ u. left s s' t n kept u s') (range_with_len 0 k) ≤ passes_left s t n) (sym kept.most)
    (spent (is_granted_past s s' t n) (λ u. left s s' t n kept u s) (λ u. left s s' t n kept u s') (slots s) (slot_spent s s' t n kept))

run_spent : (s s' : State) (cs : List Command) (rs : List (Answer × Told)) (t : TxnId) (n : NodeId) → IsLawful s → (run : WaitsThrough t n s cs rs s')
    → passes_through t n s cs rs s' run + passes_left s' t n ≤ passes_left s t n
run_spent s s' [] [] t n law run = let same : passes_left s' t n ≡ passes_left s t n = ap (λ x. passes_left x t n) run.1 in omega arith
run_spent s s' [] (r ∷ rs) t n law run = absurd run
run_spent s s' (c ∷ cs) [] t n law run = absurd run
run_spent s s' (c ∷ cs) (r ∷ rs) t n law run =
    let mid = run.1 in
    let first = passes_are_spent s mid c r.0 r.1 t n law run.2 run.0 (waits_first t n mid cs rs s' run.3) in
    let rest = run_spent mid s' cs rs t n (steps_keep_law s mid c r.0 r.1 law run.2) run.3 in
    omega arith

pub passed_at_most : PassedAtMost
passed_at_most s s' cs rs t n law run =
    (run_spent s s' cs rs t n law run, at_most_four (stands_before s t n) (λ u. raises_left (s.held u n)) (slots s) (λ u. few_raises (s.held u n)))

-- One other over a run.

each_spent : (s s' : State) (cs : List Command) (rs : List (Answer × Told)) (t : TxnId) (n : NodeId) (u : ℕ) → IsLawful s
    → (run : WaitsThrough t n s cs rs s') → passes_of u t n s cs rs s' run + passes_left_to s' t n u ≤ passes_left_to s t n u
each_spent s s' [] [] t n u law run =
    let same : passes_left_to s' t n u ≡ passes_left_to s t n u = ap (λ x. passes_left_to x t n u) run.1 in omega arith
each_spent s s' [] (r ∷ rs) t n u law run = absurd run
each_spent s s' (c ∷ cs) [] t n u law run = absurd run
each_spent s s' (c ∷ cs) (r ∷ rs) t n u law run =
    let mid = run.1 in
    let first = slot_spent s mid t n (step_before s mid c r.0 r.1 t n law run.2 run.0 (waits_first t n mid cs rs s' run.3)) u in
    let rest = each_spent mid s' cs rs t n u (steps_keep_law s mid c r.0 r.1 law run.2) run.3 in
    omega arith

few_left : (s : State) (t : TxnId) (n : NodeId) (u : ℕ) → passes_left_to s t n u ≤ 4
few_left s t n u = by (stands_before s t n u)
  where
    by : (b : Bool) → (if b then raises_left (s.held u n) else 0) ≤ 4
    by true = few_raises (s.held u n)
    by false = omega arith

pub each_passes_at_most : EachPassesAtMost
each_passes_at_most s s' cs rs t n u law run = (each_spent s s' cs rs t n u law run, few_left s t n u)
