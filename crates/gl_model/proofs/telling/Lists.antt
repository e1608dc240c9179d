-- Notices by rising slot, and that they are what is told. For told lists.
use Rattle.gl_model.proofs.Words.{◌&&◌, ◌+◌, ◌<◌, ◌==◌, [], ◌∙◌, ◌∷◌, ◌≡◌, ◌≤◌, addressed, age_of, and_both, ap, ap₂, arith, Bool, both, candidate-on_cycle}
use Rattle.gl_model.proofs.Words.{clash, cond, cons_option, false, filter, filter_map, fun_ext, get_or, if◌then◌else◌, insert, is_rising, is_some, IsBySlot}
use Rattle.gl_model.proofs.Words.{IsLawful, IsNonDecreasingBy, IsOnNoCycle, IsPartitionedBy, IsPartitionedBy-ltb, IsPartitionPoint, length, List, list_all}
use Rattle.gl_model.proofs.Words.{list_all_at, most_slots, nat_le, nat_lt, nat_tests, None, not, Notice, notices_in, number_other, number_same, Option}
use Rattle.gl_model.proofs.Words.{prefix_len, prefix_len_is, range_with_len, refl, Settled, SettledWithin, slots, Some, split, State, status_of, suc, sym, Told}
use Rattle.gl_model.proofs.Words.{told, told_but, told_from, told_to, true, TxnId, Victim, Victims, waits_for, zero, ℕ}
use Rattle.gl_model.proofs.telling.Between.{quiet_told}
use Rattle.gl_model.proofs.queues.Waiters.{all_weaker}

-- A notice put in its place among notices by rising slot.

abbrev Named : Type 0
Named = TxnId × Notice

all_inserted : (p : Named → Bool) (xs : Told) (i : ℕ) (x : Named) → i ≤ length xs → p x ≡ true → list_all p xs ≡ true → list_all p (insert xs i x) ≡ true
all_inserted p xs zero x h here rest = grind arith
all_inserted p [] (suc i) x h here rest = absurd (omega arith)
all_inserted p (y ∷ ys) (suc i) x h here rest = let b = and_both _ _ rest in both _ _ b.0 (all_inserted p ys i x (omega arith) here b.1)

-- all after one that is above are above
all_above : (lo s : ℕ) (xs : Told) → lo < s → list_all (λ y. nat_lt s y.0.slot) xs ≡ true → list_all (λ y. nat_lt lo y.0.slot) xs ≡ true
all_above lo s xs h above = all_weaker (λ (y : Named). nat_lt s y.0.slot) (λ (y : Named). nat_lt lo y.0.slot) xs (λ y e. grind (arith, nat_tests)) above

abbrev pub place : Told → ℕ → ℕ
place xs s = prefix_len (λ x. nat_lt x.0.slot s) xs

pub place_within : (xs : Told) (s : ℕ) → place xs s ≤ length xs
place_within [] s = omega arith
place_within (x ∷ xs) s = grind (arith, nat_tests, nat_lt x.0.slot s, place_within xs s)

-- slots rise along the notices
rising_order : (xs : Told) → is_rising xs ≡ true → IsNonDecreasingBy (λ (x : Named). x.0.slot) xs
rising_order [] h i j d le lt = absurd (omega (arith, lt))
rising_order (x ∷ xs) h zero zero d le lt = omega arith
rising_order (x ∷ xs) h zero (suc j) d le lt =
    let both = and_both _ _ h in
    split (nat_lt x.0.slot (get_or xs j d).0.slot) (λ e. below _ _ e)
    (λ e. clash both.0 (list_all_at (λ (y : Named). nat_lt x.0.slot y.0.slot) xs j d (omega (arith, lt)) e))
  where
    below : (a b : ℕ) → nat_lt a b ≡ true → a ≤ b
    below a b e = grind (arith, nat_tests)
rising_order (x ∷ xs) h (suc i) zero d le lt = absurd (omega (arith, le))
rising_order (x ∷ xs) h (suc i) (suc j) d le lt = rising_order xs (and_both _ _ h).1 i j d (omega (arith, le)) (omega (arith, lt))

-- so a binary search parts them at the place of a notice
pub place_parts : (xs : Told) (s : ℕ) → is_rising xs ≡ true → IsPartitionedBy (λ (x : Named). nat_lt x.0.slot s) xs
place_parts xs s h = IsPartitionedBy-ltb (λ (x : Named). x.0.slot) xs s (rising_order xs h)

pub place_found : (xs : Told) (s i : ℕ) → i ≤ length xs
    → IsPartitionPoint (λ (x : Named). nat_lt x.0.slot s ≡ true) (λ (x : Named). nat_lt x.0.slot s ≡ false) xs i → i ≡ place xs s
place_found xs s i within parts =
    let d : Named = (record { slot = 0; age = 0 }, Victim) in
    sym (prefix_len_is (λ (x : Named). nat_lt x.0.slot s) xs i d within (λ k h. parts.0 k d (omega arith) h) (λ h. parts.1 i d (omega arith) h))

module _ (x : Named) where
  abbrev inserted : Told → Told
  inserted xs = insert xs (place xs x.0.slot) x

  inserted_cons : (y : Named) (ys : Told) (b : Bool) → nat_lt y.0.slot x.0.slot ≡ b → inserted (y ∷ ys) ≡ cond b (y ∷ inserted ys) (x ∷ y ∷ ys)
  inserted_cons y ys b h1 = grind (arith, nat_tests)

  absent_cons : (y : Named) (ys : Told) → notices_in (y ∷ ys) x.0.slot ≡ None → ((y.0.slot == x.0.slot) ≡ false) × (notices_in ys x.0.slot ≡ None)
  absent_cons y ys h = grind (arith, nat_tests)

  rising_inserted : (xs : Told) → is_rising xs ≡ true → notices_in xs x.0.slot ≡ None → is_rising (inserted xs) ≡ true
  rising_inserted [] h absent = refl
  rising_inserted (y ∷ ys) h absent =
      let out = absent_cons y ys absent in let both = and_both _ _ h in
      split (nat_lt y.0.slot x.0.slot) (λ e. ap is_rising (inserted_cons y ys true e)
      ∙ ap₂ (λ a b. a && b) (all_inserted (λ z. nat_lt y.0.slot z.0.slot) ys (place ys x.0.slot) x (place_within ys x.0.slot) e both.0)
      (rising_inserted ys both.1 out.1))
      (λ e. let lower : nat_lt x.0.slot y.0.slot ≡ true = grind (arith, nat_tests) in let low : x.0.slot < y.0.slot = grind (arith, nat_tests) in
      ap is_rising (inserted_cons y ys false e) ∙ ap₂ (λ a b. (a && b) && (list_all (λ z. nat_lt y.0.slot z.0.slot) ys && is_rising ys)) lower
      (all_above x.0.slot y.0.slot ys low both.0) ∙ h)

  pub by_slot_inserted : (xs : Told) → IsBySlot xs → notices_in xs x.0.slot ≡ None → x.0.slot < most_slots → IsBySlot (inserted xs)
  by_slot_inserted xs is absent low = record {
    rising = rising_inserted xs is.rising absent;
    below = all_inserted (λ z. nat_lt z.0.slot most_slots) xs (place xs x.0.slot) x (place_within xs x.0.slot) (grind (arith, nat_tests)) is.below;
  }

  pub notices_inserted : (xs : Told) → notices_in xs x.0.slot ≡ None → (u : ℕ)
      → notices_in (inserted xs) u ≡ (if u == x.0.slot then Some x else notices_in xs u)
  notices_inserted [] absent u = grind (arith, nat_tests, u == x.0.slot)
  notices_inserted (y ∷ ys) absent u =
      let out = absent_cons y ys absent in
      split (nat_lt y.0.slot x.0.slot)
      (λ e. ap (λ zs. notices_in zs u) (inserted_cons y ys true e) ∙ ap (cond (y.0.slot == u) (Some y)) (notices_inserted ys out.1 u)
      ∙ grind (arith, nat_tests, y.0.slot == u, u == x.0.slot, out.0))
      (λ e. ap (λ zs. notices_in zs u) (inserted_cons y ys false e) ∙ grind (arith, nat_tests, u == x.0.slot))

-- rising slots from lo on and below k are at most k - lo
rising_few : (lo k : ℕ) (xs : Told) → lo ≤ k → is_rising xs ≡ true → list_all (λ x. nat_le lo x.0.slot) xs ≡ true → list_all (λ x. nat_lt x.0.slot k) xs ≡ true
    → length xs + lo ≤ k
rising_few lo k [] h up from below = omega arith
rising_few lo k (x ∷ xs) h up from below =
    let rest = and_both _ _ up in let f = and_both (nat_le lo x.0.slot) _ from in let b = and_both (nat_lt x.0.slot k) _ below in
    let here : lo ≤ x.0.slot = grind (arith, nat_tests) in let low : x.0.slot < k = grind (arith, nat_tests) in
    let more = rising_few (x.0.slot + 1) k xs (omega arith) rest.1 (all_weaker (λ (y : Named). nat_lt x.0.slot y.0.slot)
    (λ (y : Named). nat_le (x.0.slot + 1) y.0.slot) xs (λ y e. grind (arith, nat_tests)) rest.0) b.1 in
    omega arith

-- there is room for one more slot
pub few_told : (xs : Told) → IsBySlot xs → length xs ≤ most_slots
few_told xs is = let h = rising_few 0 most_slots xs (omega arith) is.rising
    (all_weaker (λ (x : Named). nat_lt x.0.slot most_slots) (λ (x : Named). nat_le 0 x.0.slot) xs
    (λ x e. grind (arith, nat_tests)) is.below) is.below in omega arith

length-inserted : (xs : Told) (i : ℕ) (x : Named) → i ≤ length xs → length (insert xs i x) ≡ length xs + 1
length-inserted xs zero x h = omega arith
length-inserted [] (suc i) x h = absurd (omega arith)
length-inserted (y ∷ ys) (suc i) x h = let r = length-inserted ys i x (omega arith) in omega arith

pub room_to_tell : (xs : Told) (x : Named) → IsBySlot xs → notices_in xs x.0.slot ≡ None → x.0.slot < most_slots → length xs < most_slots
room_to_tell xs x is absent low =
    let few = few_told (inserted x xs) (by_slot_inserted x xs is absent low) in
    let more = length-inserted xs (place xs x.0.slot) x (place_within xs x.0.slot) in
    omega arith

-- Notices by rising slot are what is told slot after slot.

-- what passes the test
abbrev pub kept : {Y : Type 0} → (Y → Bool) → Option Y → Option Y
kept p None = None
kept p (Some y) = if p y then Some y else None

pub filter-filter_map : {X Y : Type 0} (p : Y → Bool) (h : X → Option Y) (xs : List X) → filter p (filter_map h xs) ≡ filter_map (λ x. kept p (h x)) xs
filter-filter_map p h [] = refl
filter-filter_map p h (x ∷ xs) = grind (arith, nat_tests, h x, filter-filter_map p h xs)

-- a slot below all has no notice
pub untold_below : (u : ℕ) (xs : Told) → list_all (λ y. nat_lt u y.0.slot) xs ≡ true → notices_in xs u ≡ None
untold_below u [] h = refl
untold_below u (y ∷ ys) h =
    let both = and_both (nat_lt u y.0.slot) _ h in let other : (y.0.slot == u) ≡ false = grind (arith, nat_tests) in
    ap (λ b. cond b (Some y) (notices_in ys u)) other ∙ untold_below u ys both.1

-- a test that each slot with a notice passes is passed by the slot of each notice
pub told_pass : (p : ℕ → Bool) (xs : Told) → ((u : ℕ) → is_some (notices_in xs u) ≡ true → p u ≡ true) → list_all (λ x. p x.0.slot) xs ≡ true
told_pass p [] h = refl
told_pass p (x ∷ xs) h =
    both _ _ (h x.0.slot (ap (λ b. is_some (cond b (Some x) (notices_in xs x.0.slot))) (number_same x.0.slot x.0.slot refl)))
    (told_pass p xs (λ u k. h u (grind (arith, nat_tests, x.0.slot == u))))

-- rising notices for n slots from lo on are those of each slot, in order
pub rising_is : (f : ℕ → Option (TxnId × Notice)) (n lo : ℕ) (xs : Told) → is_rising xs ≡ true → list_all (λ x. nat_le lo x.0.slot) xs ≡ true
    → list_all (λ x. nat_lt x.0.slot (lo + n)) xs ≡ true → ((u : ℕ) → lo ≤ u → notices_in xs u ≡ f u) → xs ≡ filter_map f (range_with_len lo n)
rising_is f zero lo [] up from below each = refl
rising_is f zero lo (x ∷ xs) up from below each = grind (arith, nat_tests, nat_le lo x.0.slot, nat_lt x.0.slot (lo + 0), and_both)
rising_is f (suc n) lo [] up from below each =
    rising_is f n (lo + 1) [] refl refl refl (λ u h. each u (omega arith))
    ∙ ap (λ o. cons_option o (filter_map f (range_with_len (lo + 1) n))) (each lo (omega arith))
rising_is f (suc n) lo (x ∷ xs) up from below each =
    let rest = and_both _ _ up in let a = and_both (nat_le lo x.0.slot) _ from in let b = and_both (nat_lt x.0.slot (lo + suc n)) _ below in
    split (x.0.slot == lo) (λ e. ap (λ ys. x ∷ ys) (rising_is f n (lo + 1) xs rest.1 (behind xs (λ v h. grind (arith, nat_tests)) rest.0) (nearer xs b.1)
    (λ u h. sym (ap (λ c. cond c (Some x) (notices_in xs u)) (number_other x.0.slot u (λ is. grind (arith, nat_tests)))) ∙ each u (omega arith)))
    ∙ ap (λ o. cons_option o (filter_map f (range_with_len (lo + 1) n))) (sym (ap (λ c. cond c (Some x) (notices_in xs lo)) e) ∙ each lo (omega arith)))
    (λ e. let first : nat_lt lo x.0.slot ≡ true = grind (arith, nat_tests, a.0) in
    rising_is f n (lo + 1) (x ∷ xs) up (both _ _ (grind (arith, nat_tests)) (behind xs (λ v h. grind (arith, nat_tests)) rest.0)) (nearer (x ∷ xs) below)
    (λ u h. each u (omega arith)) ∙ ap (λ o. cons_option o (filter_map f (range_with_len (lo + 1) n)))
    (sym (untold_below lo (x ∷ xs) (both _ _ first (all_weaker (λ (y : Named). nat_lt x.0.slot y.0.slot) (λ (y : Named). nat_lt lo y.0.slot) xs
    (λ y h. grind (arith, nat_tests)) rest.0))) ∙ each lo (omega arith)))
  where
    nearer : (ys : Told) → list_all (λ y. nat_lt y.0.slot (lo + suc n)) ys ≡ true → list_all (λ y. nat_lt y.0.slot (lo + 1 + n)) ys ≡ true
    nearer ys = all_weaker (λ (y : Named). nat_lt y.0.slot (lo + suc n)) (λ (y : Named). nat_lt y.0.slot (lo + 1 + n)) ys (λ y h. grind (arith, nat_tests))

    behind : (ys : Told) → ((v : ℕ) → nat_lt x.0.slot v ≡ true → nat_le (lo + 1) v ≡ true) → list_all (λ y. nat_lt x.0.slot y.0.slot) ys ≡ true
        → list_all (λ y. nat_le (lo + 1) y.0.slot) ys ≡ true
    behind ys more = all_weaker (λ (y : Named). nat_lt x.0.slot y.0.slot) (λ (y : Named). nat_le (lo + 1) y.0.slot) ys (λ y. more y.0.slot)

-- rising notices, none for a slot from n on
pub rising_all : (f : ℕ → Option (TxnId × Notice)) (n : ℕ) (xs : Told) → is_rising xs ≡ true → ((u : ℕ) → notices_in xs u ≡ f u)
    → ((u : ℕ) → is_some (f u) ≡ true → u < n) → xs ≡ filter_map f (range_with_len 0 n)
rising_all f n xs up each low =
    rising_is f n 0 xs up (told_pass (λ v. nat_le 0 v) xs (λ u h. grind (arith, nat_tests)))
    (told_pass (λ v. nat_lt v (0 + n)) xs (λ u h. let lt = low u (sym (ap is_some (each u)) ∙ h) in grind (arith, nat_tests, lt))) (λ u h. each u)

-- one that is told lives
told_lives : (s now : State) (u : ℕ) → is_some (told_to s now u) ≡ true → is_some (s.txns u) ≡ true
told_lives s now u h = grind (arith, nat_tests)

-- if slots are below the limit, notices by rising slot that are those of each slot are what is told
pub told_in_order : (s now : State) → ((u : ℕ) → is_some (s.txns u) ≡ true → u < s.most) → (xs : Told) → IsBySlot xs
    → ((u : ℕ) → notices_in xs u ≡ told_to s now u) → xs ≡ told s now
told_in_order s now below xs sorted each = rising_all (told_to s now) s.most xs sorted.rising each (λ u h. below u (told_lives s now u h))

-- notices by rising slot that are those of each slot are what is told
pub told_is : (s now : State) (xs : Told) → IsLawful s → s.most ≤ most_slots → IsBySlot xs → ((u : ℕ) → notices_in xs u ≡ told_to s now u) → xs ≡ told s now
told_is s now xs law most sorted each = told_in_order s now law.slots_below xs sorted each

-- a name is left out by its slot
kept_name : (t : ℕ) (name : TxnId) (o : Option Notice)
    → kept (λ x. not (x.0.slot == t)) (addressed name o) ≡ (if name.slot == t then None else addressed name o)
kept_name t name o = grind (arith, nat_tests, o)

but_each : (s now : State) (t : ℕ) → told_but t s now ≡ filter_map (λ u. if u == t then None else told_to s now u) (slots s)
but_each s now t = filter-filter_map (λ x. not (x.0.slot == t)) (told_to s now) (slots s)
    ∙ ap (λ f. filter_map f (slots s)) (fun_ext (λ u. kept_name t (record { slot = u; age = age_of s u }) (told_from now u (status_of s u))))

-- what is told from two states is the same except for t, if they agree on all others
pub told_but_same : (s s' now : State) (t : ℕ) → s'.most ≡ s.most → ((u : ℕ) → (u == t) ≡ false → s'.txns u ≡ s.txns u) → told_but t s' now ≡ told_but t s now
told_but_same s s' now t most same =
    but_each s' now t ∙ ap₂ filter_map (fun_ext (λ u. grind (arith, nat_tests, u == t, same u))) (ap (range_with_len 0) most) ∙ sym (but_each s now t)

-- the same with the caller left out
pub told_but_is : (s now : State) (t : ℕ) (xs : Told) → IsLawful s → s.most ≤ most_slots → IsBySlot xs
    → ((u : ℕ) → notices_in xs u ≡ (if u == t then None else told_to s now u)) → xs ≡ told_but t s now
told_but_is s now t xs law most sorted each =
    rising_all (λ u. if u == t then None else told_to s now u) s.most xs sorted.rising each
    (λ u h. law.slots_below u (told_lives s now u (grind (arith, nat_tests, u == t, h)))) ∙ sym (but_each s now t)

-- and if the status of all is the same, nothing is told
pub told_nothing : (s now : State) (t : ℕ) → ((u : ℕ) → is_some (s.txns u) ≡ true → u < s.most) → ((u : ℕ) → status_of now u ≡ status_of s u)
    → [] ≡ told_but t s now
told_nothing s now t below same = ap (filter (λ x. not (x.0.slot == t)))
    (told_in_order s now below [] (record { rising = refl; below = refl }) (λ u. sym (quiet_told s now u (same u))))

-- A settle of a transaction that is on no cycle.

settled_same_within : (c : Victims) (k : ℕ) (s s' : State) (t : ℕ) → IsOnNoCycle (waits_for s) t → SettledWithin c k s t s' → s' ≡ s
settled_same_within c zero s s' t none h = h.1
settled_same_within c (suc k) s s' t none h = absurd (none h.0 (candidate-on_cycle c (waits_for s) t h.0 h.1.is_member.is_member))

-- it is settled as it is
pub settled_same : (c : Victims) (s s' : State) (t : ℕ) → IsOnNoCycle (waits_for s) t → Settled c s t s' → s' ≡ s
settled_same c s s' t none h = settled_same_within c h.0 s s' t none h.1

-- of no change nobody is told
pub told_same_state : (s : State) → IsLawful s → told s s ≡ []
told_same_state s law = sym (told_in_order s s law.slots_below [] (record { rising = refl; below = refl }) (λ u. sym (quiet_told s s u refl)))

-- so nobody is told of it
pub told_settled_same : (c : Victims) (s s' : State) (t : ℕ) → IsLawful s → IsOnNoCycle (waits_for s) t → Settled c s t s' → told s s' ≡ []
told_settled_same c s s' t law none h = ap (told s) (settled_same c s s' t none h) ∙ told_same_state s law
