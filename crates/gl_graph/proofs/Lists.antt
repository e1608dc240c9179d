-- Lists with an item put in or taken out: their places, what is among them, and that bounds still rise.
use Rattle.std.proofs.Common.{◌∙◌, ap, ap₂, arith, refl, sym}
use Rattle.std.proofs.lemmas.Bool.Decides.{nat_tests}
use Rattle.std.proofs.lemmas.List.Sums.{sum_by-insert, sum_by-remove}
use Rattle.std.specs.List.{insert, remove, list_all, list_any, position_or_len}
use Rattle.std.specs.Prelude.{◌≡◌, ℕ, zero, suc, ◌+◌, ◌<◌, ◌≤◌, Bool, true, false, not, ◌||◌, cond, nat_lt, nat_le, List, [], ◌∷◌, length, slice_index_or}
use Rattle.gl_modes.proofs.NodeLemmas.{same_node-equal, same_node-from_equal}
use Rattle.gl_modes.proofs.Words.{and_both, both, no, not_true, or_elim, or_left, or_right, split}
use Rattle.gl_modes.specs.Nodes.{same_node}
use Rattle.gl_modes.specs.declared.node.NodeId.{NodeId}
use Rattle.gl_graph.proofs.Unrefused.{or_no}
use Rattle.gl_graph.specs.Graph.{interval_place}
use Rattle.gl_graph.specs.Lawful.{are_distinct, IsRising}

-- one bound more: the keys from it on have the next place
pub place_insert : (bs : List ℕ) (p bound key : ℕ) → interval_place (insert bs p bound) key ≡ interval_place bs key + cond (nat_le bound key) 1 0
place_insert bs p bound key = sum_by-insert (λ b. cond (nat_le b key) 1 0) bs p bound

pub place_remove : (bs : List ℕ) (p key : ℕ) → p < length bs
    → interval_place (remove bs p) key + cond (nat_le (slice_index_or bs p 0) key) 1 0 ≡ interval_place bs key
place_remove bs p key low = sum_by-remove (λ b. cond (nat_le b key) 1 0) bs p 0 low

-- all that pass, and one more
pub all_insert : {A : Type 0} (f : A → Bool) (xs : List A) (p : ℕ) (y : A) → f y ≡ true → list_all f xs ≡ true → list_all f (insert xs p y) ≡ true
all_insert f xs zero y h k = both (f y) (list_all f xs) h k
all_insert f [] (suc p) y h k = both (f y) true h refl
all_insert f (x ∷ xs) (suc p) y h k =
    let t = and_both (f x) (list_all f xs) k in both (f x) (list_all f (insert xs p y)) t.0 (all_insert f xs p y h t.1)

pub all_remove : {A : Type 0} (f : A → Bool) (xs : List A) (p : ℕ) → list_all f xs ≡ true → list_all f (remove xs p) ≡ true
all_remove f [] zero k = refl
all_remove f [] (suc p) k = refl
all_remove f (x ∷ xs) zero k = (and_both (f x) (list_all f xs) k).1
all_remove f (x ∷ xs) (suc p) k = let t = and_both (f x) (list_all f xs) k in both (f x) (list_all f (remove xs p)) t.0 (all_remove f xs p t.1)

all_above : (a b : ℕ) (bs : List ℕ) → a < b → list_all (λ c. nat_lt b c) bs ≡ true → list_all (λ c. nat_lt a c) bs ≡ true
all_above a b [] low h = refl
all_above a b (c ∷ bs) low h = grind (arith, all_above a b bs low)

-- bounds rise with one more that is between its neighbours
pub rising_insert : (a : ℕ) (bs : List ℕ) (p bound : ℕ) → IsRising (a ∷ bs) → p ≤ length bs → slice_index_or (a ∷ bs) p 0 < bound
    → (p < length bs → bound < slice_index_or bs p 0) → IsRising (a ∷ insert bs p bound)
rising_insert a [] zero bound h low above below =
    let first : nat_lt a bound ≡ true = grind (arith, nat_tests) in
    (both (nat_lt a bound) true first refl, (refl, tt))
rising_insert a (b ∷ bs) zero bound h low above below =
    let first : nat_lt a bound ≡ true = grind (arith, nat_tests) in
    let less : bound < b = below (omega arith) in
    let next : nat_lt bound b ≡ true = grind (arith, nat_tests) in
    (both (nat_lt a bound) _ first h.0, (both (nat_lt bound b) _ next (all_above bound b bs less h.1.0), h.1))
rising_insert a [] (suc p) bound h low above below = absurd (omega arith)
rising_insert a (b ∷ bs) (suc p) bound h low above below =
    let rest = rising_insert b bs p bound h.1 (omega arith) above (λ l. below (omega arith)) in
    let first : nat_lt a b ≡ true = (and_both (nat_lt a b) _ h.0).0 in
    let less : a < b = grind (arith, nat_tests) in
    (both (nat_lt a b) _ first (all_above a b (insert bs p bound) less rest.0), rest)

-- and without one
pub rising_remove : (bs : List ℕ) (p : ℕ) → IsRising bs → IsRising (remove bs p)
rising_remove [] zero h = tt
rising_remove [] (suc p) h = tt
rising_remove (b ∷ bs) zero h = h.1
rising_remove (b ∷ bs) (suc p) h = (all_remove (λ c. nat_lt b c) bs p h.0, rising_remove bs p h.1)

-- what is among the items with one more
pub any_insert : {A : Type 0} (f : A → Bool) (xs : List A) (p : ℕ) (y : A) → list_any f (insert xs p y) ≡ (f y || list_any f xs)
any_insert f xs zero y = refl
any_insert f [] (suc p) y = refl
any_insert f (x ∷ xs) (suc p) y = ap (λ b. f x || b) (any_insert f xs p y) ∙ swap (f x) (f y) (list_any f xs)
  where
    swap : (a b c : Bool) → (a || (b || c)) ≡ (b || (a || c))
    swap true true c = refl
    swap true false c = refl
    swap false true c = refl
    swap false false c = refl

pub distinct_insert : (xs : List NodeId) (p : ℕ) (y : NodeId) → are_distinct xs ≡ true → list_any (same_node y) xs ≡ false → are_distinct (insert xs p y) ≡ true
distinct_insert xs zero y h k = both (not (list_any (same_node y) xs)) (are_distinct xs) (ap not k) h
distinct_insert [] (suc p) y h k = refl
distinct_insert (x ∷ xs) (suc p) y h k =
    let t = and_both (not (list_any (same_node x) xs)) (are_distinct xs) h in
    let n = or_no (same_node y x) (list_any (same_node y) xs) k in
    let other : same_node x y ≡ false = not_true (same_node x y) (λ e. no (sym n.0 ∙ same_node-from_equal y x (sym (same_node-equal x y e)))) in
    both (not (list_any (same_node x) (insert xs p y))) (are_distinct (insert xs p y))
    (ap not (any_insert (same_node x) xs p y ∙ ap₂ (λ a b. a || b) other (not_true (list_any (same_node x) xs) (λ e. no (sym (ap not e) ∙ t.0)))))
    (distinct_insert xs p y t.1 n.1)

-- what was put in is taken out
pub remove_inserted : {A : Type 0} (xs : List A) (p : ℕ) (y : A) → p ≤ length xs → remove (insert xs p y) p ≡ xs
remove_inserted xs zero y low = refl
remove_inserted [] (suc p) y low = absurd (omega arith)
remove_inserted (x ∷ xs) (suc p) y low = ap (λ zs. x ∷ zs) (remove_inserted xs p y (omega arith))

-- what is among the items without one
pub any_removed : {A : Type 0} (f : A → Bool) (xs : List A) (p : ℕ) → list_any f (remove xs p) ≡ true → list_any f xs ≡ true
any_removed f [] zero h = h
any_removed f [] (suc p) h = h
any_removed f (x ∷ xs) zero h = or_right (f x) (list_any f xs) h
any_removed f (x ∷ xs) (suc p) h =
    or_elim (f x) (list_any f (remove xs p)) h (λ here. or_left (f x) (list_any f xs) here)
    (λ there. or_right (f x) (list_any f xs) (any_removed f xs p there))

pub distinct_remove : (xs : List NodeId) (p : ℕ) → are_distinct xs ≡ true → are_distinct (remove xs p) ≡ true
distinct_remove [] zero h = refl
distinct_remove [] (suc p) h = refl
distinct_remove (x ∷ xs) zero h = (and_both (not (list_any (same_node x) xs)) (are_distinct xs) h).1
distinct_remove (x ∷ xs) (suc p) h =
    let t = and_both (not (list_any (same_node x) xs)) (are_distinct xs) h in
    both (not (list_any (same_node x) (remove xs p))) (are_distinct (remove xs p))
    (ap not (not_true (list_any (same_node x) (remove xs p)) (λ e. no (sym (ap not (any_removed (same_node x) xs p e)) ∙ t.0))))
    (distinct_remove xs p t.1)

-- each other item stays
pub stays_among : (xs : List NodeId) (p : ℕ) (q d : NodeId) → list_any (same_node q) xs ≡ true
    → (p < length xs → same_node q (slice_index_or xs p d) ≡ false) → list_any (same_node q) (remove xs p) ≡ true
stays_among [] zero q d h k = h
stays_among [] (suc p) q d h k = h
stays_among (x ∷ xs) zero q d h k =
    or_elim (same_node q x) (list_any (same_node q) xs) h (λ here. absurd (no (sym (k (omega arith)) ∙ here))) (λ there. there)
stays_among (x ∷ xs) (suc p) q d h k =
    or_elim (same_node q x) (list_any (same_node q) xs) h (λ here. or_left (same_node q x) _ here)
    (λ there. or_right (same_node q x) _ (stays_among xs p q d there (λ l. k (omega arith))))

-- and the removed one is not among the others
pub gone_from : (xs : List NodeId) (p : ℕ) (d : NodeId) → are_distinct xs ≡ true → p < length xs → list_any
    (same_node (slice_index_or xs p d)) (remove xs p) ≡ false
gone_from [] p d h low = absurd (omega arith)
gone_from (x ∷ xs) zero d h low =
    let t = and_both (not (list_any (same_node x) xs)) (are_distinct xs) h in not_true (list_any (same_node x) xs) (λ e. no (sym (ap not e) ∙ t.0))
gone_from (x ∷ xs) (suc p) d h low =
    let t = and_both (not (list_any (same_node x) xs)) (are_distinct xs) h in
    let other : same_node (slice_index_or xs p d) x ≡ false = not_true (same_node (slice_index_or xs p d) x) (λ e.
    no (sym (ap not (listed xs p d (omega arith) x (same_node-equal (slice_index_or xs p d) x e))) ∙ t.0)) in
    ap₂ (λ a b. a || b) other (gone_from xs p d t.1 (omega arith))
  where
    listed : (ys : List NodeId) (k : ℕ) (e : NodeId) → k < length ys → (y : NodeId) → slice_index_or ys k e ≡ y → list_any (same_node y) ys ≡ true
    listed [] k e l y is = absurd (omega arith)
    listed (z ∷ ys) zero e l y is = or_left (same_node y z) _ (same_node-from_equal y z (sym is))
    listed (z ∷ ys) (suc k) e l y is = or_right (same_node y z) _ (listed ys k e (omega arith) y is)

-- an item that is among others is at the place where it is found
pub found_at_place : (xs : List NodeId) (q d : NodeId) → list_any (same_node q) xs ≡ true
    → (position_or_len (λ j. same_node j q) xs < length xs) × (slice_index_or xs (position_or_len (λ j. same_node j q) xs) d ≡ q)
found_at_place [] q d h = absurd (no h)
found_at_place (x ∷ xs) q d h =
    split (same_node x q)
    (λ here.
    let at : position_or_len (λ j. same_node j q) (x ∷ xs) ≡ 0 = grind arith in
    (omega arith, ap (λ k. slice_index_or (x ∷ xs) k d) at ∙ same_node-equal x q here))
    (λ other.
    let at : position_or_len (λ j. same_node j q) (x ∷ xs) ≡ suc (position_or_len (λ j. same_node j q) xs) = grind arith in
    let turned : same_node q x ≡ false = not_true (same_node q x) (λ e. no (sym other ∙ same_node-from_equal x q (sym (same_node-equal q x e)))) in
    let rest = found_at_place xs q d (or_elim (same_node q x) (list_any (same_node q) xs) h (λ e. absurd (no (sym turned ∙ e))) (λ e. e)) in
    let low = rest.0 in
    (omega arith, ap (λ k. slice_index_or (x ∷ xs) k d) at ∙ rest.1))
