-- Walks of a relation between finitely many numbers. For deadlocks: whether there is one, and its victim.
use Rattle.gl_model.proofs.Words.{◌&&◌, ◌+◌, ◌<◌, ◌==◌, [], ◌||◌, ◌∙◌, ◌∷◌, ◌≡◌, ◌≢◌, ◌≤◌, ◌⊎◌, ⊎_elim, ⊤, AllByRecursion, and_both, ap, ap₂, arith, Bool}
use Rattle.gl_model.proofs.Words.{candidate-on_cycle, clash, earlier-itself, earlier-not_back, earlier-over, false, Fewest, freeing-itself, if◌then◌else◌}
use Rattle.gl_model.proofs.Words.{is_earlier, IsCandidate, IsDistinct, IsEquivalence, IsLatest, IsOnCycleOf, IsOnNoCycle, IsWalk, latest-from, length}
use Rattle.gl_model.proofs.Words.{length-le_from_is_member, length-range_with_len, List, list_any, nat_tests, no_cycle-reaches, None, not, not-true}
use Rattle.gl_model.proofs.Words.{number_same, on_cycle-reaches, Option, or_elim, or_left, or_right, range_with_len, Reaches, refl, same_number, Some, split}
use Rattle.gl_model.proofs.Words.{subst, suc, sym, true, Victims, waits_of-less, without, Youngest, zero, ℕ}

abbrev pub same : ℕ → ℕ → Bool
same x y = x == y

same_equivalence : IsEquivalence same
same_equivalence = record {
  refl = λ a. number_same a a refl;
  symm = λ a b. grind (arith, nat_tests);
  congr = λ a b c h. ap (λ x. same x c) (same_number a b h);
}

abbrev pub Distinct : List ℕ → Type 0
Distinct [] = ⊤
Distinct (v ∷ path) = (list_any (same v) path ≡ false) × Distinct path

all_differ : (v : ℕ) (path : List ℕ) → list_any (same v) path ≡ false → AllByRecursion (λ y. same v y ≡ false) path
all_differ v [] h = tt
all_differ v (w ∷ path) h = grind (arith, nat_tests, same v w, all_differ v path)

is_distinct : (path : List ℕ) → Distinct path → IsDistinct same path
unfolding IsDistinct
is_distinct [] d = tt
is_distinct (v ∷ path) d = (all_differ v path d.0, is_distinct path d.1)

pub in_range : (q k n : ℕ) → k ≤ q → q < k + n → list_any (same q) (range_with_len k n) ≡ true
in_range q k zero low high = absurd (omega arith)
in_range q k (suc n) low high = split (same q k) (λ e. or_left _ _ e) (λ e. let ne : q ≢ k = grind (arith, nat_tests) in
    or_right (same q k) _ (in_range q (k + 1) n (omega arith) (omega arith)))

any_of : (f : ℕ → Bool) (xs : List ℕ) → list_any f xs ≡ true → (q : ℕ) × (f q ≡ true)
any_of f [] h = clash h refl
any_of f (x ∷ xs) h = or_elim _ _ h (λ here. (x, here)) (λ there. any_of f xs there)

one_found : (f : ℕ → Bool) (q : ℕ) (xs : List ℕ) → f q ≡ true → list_any (same q) xs ≡ true → list_any f xs ≡ true
one_found f q [] h k = k
one_found f q (x ∷ xs) h k = or_elim _ _ k (λ here. or_left _ _ (ap f (sym (same_number q x here)) ∙ h)) (λ there. or_right (f x) _ (one_found f q xs h there))

-- the later one
abbrev pub later : (ℕ → ℕ) → (ℕ → ℕ) → ℕ → Option ℕ → Option ℕ
later since age n None = Some n
later since age n (Some v) = if is_earlier since age n v then Some v else Some n

-- of those below n that pass, a latest one
abbrev pub latest_below : (ℕ → ℕ) → (ℕ → ℕ) → (ℕ → Bool) → ℕ → Option ℕ
latest_below since age p zero = None
latest_below since age p (suc n) = if p n then later since age n (latest_below since age p n) else latest_below since age p n

abbrev NoneLater : (ℕ → ℕ) → (ℕ → ℕ) → (ℕ → Bool) → ℕ → Option ℕ → Type 0
NoneLater since age p n None = (u : ℕ) → u < n → p u ≡ false
NoneLater since age p n (Some v) = (p v ≡ true) × ((u : ℕ) → u < n → p u ≡ true → is_earlier since age v u ≡ false)

-- one more is looked at
module _ (since age : ℕ → ℕ) (p : ℕ → Bool) (n : ℕ) where
  last : (u : ℕ) → u < suc n → (u < n) ⊎ (u ≡ n)
  last u low = grind arith

  none_later : (v u : ℕ) → u ≡ n → is_earlier since age v n ≡ false → is_earlier since age v u ≡ false
  none_later v u at h = subst (λ x. is_earlier since age v x ≡ false) (sym at) h

  stays_out : (o : Option ℕ) → p n ≡ false → NoneLater since age p n o → NoneLater since age p (suc n) o
  stays_out None out none = λ u low. ⊎_elim (none u) (λ is. ap p is ∙ out) (last u low)
  stays_out (Some v) out best = (best.0, λ u low h. ⊎_elim (λ less. best.1 u less h) (λ is. clash (sym (ap p is) ∙ h) out) (last u low))

  comes_in : (o : Option ℕ) → p n ≡ true → NoneLater since age p n o → NoneLater since age p (suc n) (later since age n o)
  comes_in None is none = (is, λ u low h. ⊎_elim (λ less. clash h (none u less)) (λ at. none_later n u at (earlier-itself since age n)) (last u low))
  comes_in (Some v) is best = by (is_earlier since age n v) refl
    where
      by : (b : Bool) → is_earlier since age n v ≡ b → NoneLater since age p (suc n) (if b then Some v else Some n)
      by true e = (best.0, λ u low h. ⊎_elim (λ less. best.1 u less h) (λ at. none_later v u at (earlier-not_back since age n v e)) (last u low))
      by false e = (is, λ u low h. ⊎_elim (λ less. over u (best.1 u less h)) (λ at. none_later n u at (earlier-itself since age n)) (last u low))
        where
          over : (u : ℕ) → is_earlier since age v u ≡ false → is_earlier since age n u ≡ false
          over u k = split (is_earlier since age n u) (λ h. clash (earlier-over since age v n u e h) k) (λ h. h)

  one_more : (o : Option ℕ) (b : Bool) → p n ≡ b → NoneLater since age p n o → NoneLater since age p (suc n) (if b then later since age n o else o)
  one_more o true = comes_in o
  one_more o false = stays_out o

latest_is : (since age : ℕ → ℕ) (p : ℕ → Bool) (n : ℕ) → NoneLater since age p n (latest_below since age p n)
latest_is since age p zero = λ u lt. absurd (omega arith)
latest_is since age p (suc n) = one_more since age p n (latest_below since age p n) (p n) refl (latest_is since age p n)

-- y is reached from x by at most k slots in between
abbrev pub hops : (ℕ → ℕ → Bool) → ℕ → ℕ → ℕ → ℕ → Bool
hops edge most zero x y = edge x y
hops edge most (suc k) x y = edge x y || list_any (λ v. edge x v && hops edge most k v y) (range_with_len 0 most)

-- t and v reach each other
abbrev pub circles : (ℕ → ℕ → Bool) → ℕ → ℕ → ℕ → Bool
circles edge most t v = hops edge most most t v && hops edge most most v t

-- v passes for a candidate by this choice
abbrev pub passes : Victims → (ℕ → ℕ → Bool) → ℕ → ℕ → ℕ → Bool
passes Youngest edge most t v = circles edge most t v
passes Fewest edge most t v = circles edge most t v && not (hops (without edge v) most most t t)

-- the latest candidate
abbrev pub victim : Victims → (ℕ → ℕ → Bool) → ℕ → (ℕ → ℕ) → (ℕ → ℕ) → ℕ → Option ℕ
victim c edge most since age t = latest_below since age (passes c edge most t) most

abbrev pub IsAnswer : Victims → (ℕ → ℕ → Bool) → (ℕ → ℕ) → (ℕ → ℕ) → ℕ → Option ℕ → Type 0
IsAnswer c edge since age t None = IsOnNoCycle edge t
IsAnswer c edge since age t (Some v) = IsLatest (IsCandidate c edge t) since age v

module _ (edge : ℕ → ℕ → Bool) (most : ℕ) (low : (x y : ℕ) → edge x y ≡ true → y < most) where
  -- a walk that meets v continues from v
  cut : (u v y : ℕ) (path : List ℕ) → IsWalk edge u path y → list_any (same v) path ≡ true → Distinct path
      → (post : List ℕ) × IsWalk edge v post y × Distinct post
      × (list_any (same v) post ≡ false)
  cut u v y [] h k d = clash k refl
  cut u v y (w ∷ path) h k d =
      or_elim (same v w) (list_any (same v) path) k
      (λ e. let is = same_number v w e in (path, subst (λ x. IsWalk edge x path y) (sym is) h.1, d.1, ap (λ x. list_any (same x) path) is ∙ d.0))
      (λ there. cut w v y path h.1 there d.1)

  simple : (path : List ℕ) (x y : ℕ) → IsWalk edge x path y → (short : List ℕ) × IsWalk edge x short y × Distinct short
  simple [] x y h = ([], h, tt)
  simple (v ∷ path) x y h =
      let r = simple path v y h.1 in
      split (list_any (same v) r.0) (λ k. let c = cut v v y r.0 r.1 k r.2 in (v ∷ c.0, (h.0, c.1), (c.3, c.2))) (λ k. (v ∷ r.0, (h.0, r.1), (k, r.2)))

  on_path : (path : List ℕ) (x y q : ℕ) → IsWalk edge x path y → list_any (same q) path ≡ true → q < most
  on_path [] x y q h k = clash k refl
  on_path (v ∷ path) x y q h k = or_elim (same q v) (list_any (same q) path) k (λ e. subst (λ z. z < most) (sym (same_number q v e)) (low x v h.0))
      (λ there. on_path path v y q h.1 there)

  pub short : (path : List ℕ) (x y : ℕ) → IsWalk edge x path y → Distinct path → length path ≤ most
  short path x y h d =
      let few = length-le_from_is_member same_equivalence path (range_with_len 0 most) (is_distinct path d) (λ q k. let lt = on_path path x y q h k in
      in_range q 0 most (omega arith) (omega arith)) in
      let len = length-range_with_len 0 most in
      omega arith

  sound : (k x y : ℕ) → hops edge most k x y ≡ true → Reaches edge x y
  sound zero x y h = ([], h)
  sound (suc k) x y h =
      or_elim (edge x y) (list_any (λ v. edge x v && hops edge most k v y) (range_with_len 0 most)) h (λ e. ([], e))
      (λ e. let found = any_of (λ v. edge x v && hops edge most k v y) (range_with_len 0 most) e in
      let both = and_both (edge x found.0) (hops edge most k found.0 y) found.1 in
      let rest = sound k found.0 y both.1 in (found.0 ∷ rest.0, (both.0, rest.1)))

  complete : (k : ℕ) (path : List ℕ) (x y : ℕ) → length path ≤ k → IsWalk edge x path y → hops edge most k x y ≡ true
  complete zero [] x y le h = h
  complete zero (v ∷ path) x y le h = absurd (omega arith)
  complete (suc k) [] x y le h = or_left (edge x y) (list_any (λ v. edge x v && hops edge most k v y) (range_with_len 0 most)) h
  complete (suc k) (v ∷ path) x y le h =
      let lt = low x v h.0 in
      or_right (edge x y) (list_any (λ u. edge x u && hops edge most k u y) (range_with_len 0 most))
      (one_found (λ u. edge x u && hops edge most k u y) v (range_with_len 0 most) (ap₂ (λ a b. a && b) h.0 (complete k path v y (omega arith) h.1))
      (in_range v 0 most (omega arith) (omega arith)))

  reached_is : (x y : ℕ) → Reaches edge x y → hops edge most most x y ≡ true
  reached_is x y r = let path = simple r.0 x y r.1 in complete most path.0 x y (short path.0 x y path.1 path.2) path.1

  end_low : (path : List ℕ) (x y : ℕ) → IsWalk edge x path y → y < most
  end_low [] x y h = low x y h
  end_low (v ∷ path) x y h = end_low path v y h.1

  pub turns : (t v : ℕ) → IsOnCycleOf edge t v → circles edge most t v ≡ true
  turns t v on = ap₂ (λ a b. a && b) (reached_is t v on.there) (reached_is v t on.back)

  pub turned : (t v : ℕ) → circles edge most t v ≡ true → IsOnCycleOf edge t v
  turned t v h = let both = and_both (hops edge most most t v) (hops edge most most v t) h in
      record { there = sound most t v both.0; back = sound most v t both.1 }

  -- one that is on no cycle does not reach itself
  pub round_none : (t : ℕ) → IsOnNoCycle edge t → hops edge most most t t ≡ false
  round_none t none = split (hops edge most most t t) (λ h. absurd (no_cycle-reaches edge t none (sound most t t h))) (λ h. h)

  pub none_round : (t : ℕ) → hops edge most most t t ≡ false → IsOnNoCycle edge t
  none_round t away v on = clash (reached_is t t (on_cycle-reaches edge t (v, on))) away

module _ (edge : ℕ → ℕ → Bool) (most : ℕ) (low : (x y : ℕ) → edge x y ≡ true → y < most) where
  low_without : (v x y : ℕ) → without edge v x y ≡ true → y < most
  low_without v x y h = low x y (waits_of-less (λ s. not (s == v)) edge x y h)

  passes_is : (c : Victims) (t v : ℕ) → passes c edge most t v ≡ true → IsCandidate c edge t v
  passes_is Youngest t v h = turned edge most low t v h
  passes_is Fewest t v h =
      let both = and_both (circles edge most t v) (not (hops (without edge v) most most t t)) h in
      record {
        on_cycle = turned edge most low t v both.0;
        freed = none_round (without edge v) most (low_without v) t (not-true (hops (without edge v) most most t t) both.1);
      }

  is_passing : (c : Victims) (t v : ℕ) → IsCandidate c edge t v → passes c edge most t v ≡ true
  is_passing Youngest t v h = turns edge most low t v h
  is_passing Fewest t v h = ap₂ (λ a b. a && not b) (turns edge most low t v h.on_cycle) (round_none (without edge v) most (low_without v) t h.freed)

  -- one on a cycle is a candidate itself
  itself : (c : Victims) (t v : ℕ) → IsOnCycleOf edge t v → (u : ℕ) × IsCandidate c edge t u
  itself Youngest t v on = (v, on)
  itself Fewest t v on = (t, freeing-itself edge t (v, on))

  pub victim_is : (c : Victims) (since age : ℕ → ℕ) (t : ℕ) → IsAnswer c edge since age t (victim c edge most since age t)
  victim_is c since age t = by (victim c edge most since age t) (latest_is since age (passes c edge most t) most)
    where
      below : (u : ℕ) → IsCandidate c edge t u → u < most
      below u h = let on = candidate-on_cycle c edge t u h in end_low edge most low on.there.0 t u on.there.1

      by : (o : Option ℕ) → NoneLater since age (passes c edge most t) most o → IsAnswer c edge since age t o
      by None none = λ v on. let one = itself c t v on in clash (is_passing c t one.0 one.1) (none one.0 (below one.0 one.1))
      by (Some v) one = latest-from since age (IsCandidate c edge t) v (passes_is c t v one.0) (λ u h. one.1 u (below u h) (is_passing c t u h))
