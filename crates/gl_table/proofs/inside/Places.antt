-- In which places a list has its nodes after some are removed, or one is added last. For all that writes lists.
use Rattle.gl_table.proofs.Words.{◌&&◌, ◌+◌, ◌++◌, ◌-◌, ◌<◌, ◌==◌, [], ◌||◌, ◌∙◌, ◌∷◌, ◌≡◌, ◌≢◌, ◌≤◌, and_both, ap, arith, Bool, clash, cond, Entry, false}
use Rattle.gl_table.proofs.Words.{get_or, get_or-set_other, get_or-set_same, get_or_from_slice_get, is_listed, is_some-lookup, IsDistinct, KeepsLists}
use Rattle.gl_table.proofs.Words.{KeepsPlaces, keys, keys_of, length, length-set, length-take-le, List, list_any, ListsKeepPlaces, ListsLose, LockList, nat_lt}
use Rattle.gl_table.proofs.Words.{nat_tests, NodeId, nodes_by, None, not, OnlyLoses, option_map_or, or_left, or_no, or_right, other_number, position_or_len}
use Rattle.gl_table.proofs.Words.{refl, same_node, same_node-equal, same_node-from_equal, same_number, slice_get, slice_get-get_or, slice_get_within}
use Rattle.gl_table.proofs.Words.{slice_index_or, slice_set, Some, some_is, split, subst, suc, swap_remove_entry, sym, take, true, zero, ℕ}
use Rattle.std.proofs.lemmas.List.{get_or-take}
use Rattle.std.specs.Prelude.{swap_remove}
use Rattle.indexmap.proofs.SetLemmas.{keys_swap_remove_entry}
use Rattle.indexmap.specs.IndexMap.{swap_remove_by}
use Rattle.gl_lock_lists.proofs.Lists.{not_taken, once_at, place_of_listed, taken_there}
use Rattle.gl_table.proofs.inside.Orders.{order_seen, unique_in}

-- Lists one after another.

-- nothing is removed
pub same_order : (order order' : List NodeId) → order' ≡ order → OnlyLoses order order'
same_order order order' e = record {
  had = λ n h. ap (list_any (same_node n)) (sym e) ∙ h;
  places = record { first = λ k n h there. ap (λ xs. list_any (same_node n) (take k xs)) e ∙ h };
}

-- nodes are removed, and then more
pub loses_then : {a b c : List NodeId} → OnlyLoses a b → OnlyLoses b c → OnlyLoses a c
loses_then ab bc = record {
  had = λ n h. ab.had n (bc.had n h);
  places = record { first = λ k n h there. bc.places.first k n (ab.places.first k n h (bc.had n there)) there };
}

-- and after a change that may add some
pub keeps_then : {a b c : List NodeId} → KeepsPlaces a b → OnlyLoses b c → KeepsPlaces a c
keeps_then ab bc = record { first = λ k n h there. bc.places.first k n (ab.first k n h (bc.had n there)) there }

-- a node is added last
pub enters_last : (order order' : List NodeId) (n : NodeId) → order' ≡ order ++ n ∷ [] → KeepsPlaces order order'
enters_last order order' n e = record { first = λ k q h there. ap (λ xs. list_any (same_node q) (take k xs)) e ∙ more k order q h }
  where
    more : (k : ℕ) (xs : List NodeId) (q : NodeId) → list_any (same_node q) (take k xs) ≡ true → list_any (same_node q) (take k (xs ++ n ∷ [])) ≡ true
    more zero [] q h = absurd (cc)
    more zero (x ∷ xs) q h = absurd (cc)
    more (suc k) [] q h = absurd (cc)
    more (suc k) (x ∷ xs) q h = split (same_node q x) (λ b. or_left (same_node q x) (list_any (same_node q) (take k (xs ++ n ∷ []))) b)
        (λ b. or_right (same_node q x) (list_any (same_node q) (take k (xs ++ n ∷ [])))
        (more k xs q (sym (ap (λ y. y || list_any (same_node q) (take k xs)) b) ∙ h)))

-- all are removed
pub loses_all : (order order' : List NodeId) → order' ≡ [] → OnlyLoses order order'
loses_all order order' e = record {
  had = λ n h. none n h;
  places = record { first = λ k n h there. none n there };
}
  where
    none : {C : Type 0} (n : NodeId) → list_any (same_node n) order' ≡ true → C
    none n h = clash h (ap (list_any (same_node n)) e)

-- One node is removed, and the last takes its place.

-- one of the first k nodes has a place
below_place : (ks : List NodeId) (k : ℕ) (n : NodeId) → list_any (same_node n) (take k ks) ≡ true → (i : ℕ) × (i < k) × (slice_get ks i ≡ Some n)
below_place [] zero n h = absurd (cc)
below_place (x ∷ xs) zero n h = absurd (cc)
below_place [] (suc k) n h = absurd (cc)
below_place (x ∷ xs) (suc k) n h = split (same_node n x) (λ e. (0, omega arith, ap Some (sym (same_node-equal n x e))))
    (λ e. let rest = below_place xs k n (sym (ap (λ b. b || list_any (same_node n) (take k xs)) e) ∙ h) in
    let lt : rest.0 < k = rest.1 in (suc rest.0, omega (arith, lt), rest.2))

-- and one with such a place is among them
place_below : (ks : List NodeId) (k i : ℕ) (n : NodeId) → i < k → slice_get ks i ≡ Some n → list_any (same_node n) (take k ks) ≡ true
place_below ks zero i n lt at = absurd (omega arith)
place_below [] (suc k) i n lt at = absurd (cc)
place_below (x ∷ xs) (suc k) zero n lt at = or_left (same_node n x) (list_any (same_node n) (take k xs)) (same_node-from_equal n x (sym (some_is at)))
place_below (x ∷ xs) (suc k) (suc i) n lt at = or_right (same_node n x) (list_any (same_node n) (take k xs)) (place_below xs k i n (omega arith) at)

-- a test that no item passes removes none
none_there : {K : Type 0} (t : K → Bool) (ks : List K) → list_any t ks ≡ false → position_or_len t ks ≡ length ks
none_there t [] h = refl
none_there t (x ∷ xs) h =
    let out = or_no (t x) (list_any t xs) h in
    let rest : position_or_len t xs ≡ length xs = none_there t xs out.1 in
    let more : cond (not (t x)) (1 + position_or_len t xs) 0 ≡ 1 + position_or_len t xs =
    ap (λ b. cond (not b) (1 + position_or_len t xs) 0) out.0 in
    omega (arith, more, rest)

none_taken : {K : Type 0} (t : K → Bool) (ks : List K) → list_any t ks ≡ false → swap_remove_by t ks ≡ ks
none_taken t [] h = refl
none_taken t (x ∷ xs) h =
    let past : nat_lt (length (x ∷ xs)) (length (x ∷ xs)) ≡ false = itself (length (x ∷ xs)) in
    ap (λ p. option_map_or (λ i. swap_remove (x ∷ xs) i x) (cond (nat_lt p (length (x ∷ xs))) (Some p) None) (x ∷ xs)) (none_there t (x ∷ xs) h)
    ∙ ap (λ b. option_map_or (λ i. swap_remove (x ∷ xs) i x) (cond b (Some (length (x ∷ xs))) None) (x ∷ xs)) past
  where
    itself : (k : ℕ) → nat_lt k k ≡ false
    itself k = grind (arith, nat_tests)

-- the last item is moved to the place p; each other is at its place, and the last at p
swapped : {K : Type 0} (ys : List K) (p : ℕ) (d : K) (i : ℕ) (q : K) → p < length ys → slice_get ys i ≡ Some q → i ≢ p
    → (j : ℕ) × (j ≤ i) × (slice_get (swap_remove ys p d) j ≡ Some q)
swapped {K} ys p d i q lt at other = split (i == length ys - 1)
    (λ e. let end : i ≡ length ys - 1 = same_number i (length ys - 1) e in (
      p,
      omega (arith, lt, within, end, other),
      there p (omega (arith, lt, within, end, other)) ∙ ap Some (get_or-set_same ys p last d lt ∙ ap (λ k. get_or ys k d) (sym end) ∙ is),
    ))
    (λ e. let apart : i ≢ length ys - 1 = other_number i (length ys - 1) e in (
      i,
      omega arith,
      there i (omega (arith, within, apart)) ∙ ap Some (get_or-set_other ys p i last d other ∙ is),
    ))
  where
    last : K
    last = slice_index_or ys (length ys - 1) d

    within : i < length ys
    within = slice_get_within ys i q at

    is : get_or ys i d ≡ q
    is = get_or_from_slice_get ys i q d at

    shorter : length (swap_remove ys p d) ≡ length ys - 1
    shorter = let set = length-set ys p last in length-take-le (length ys - 1) (slice_set ys p last) (omega (arith, set))

    there : (j : ℕ) → j < length ys - 1 → slice_get (swap_remove ys p d) j ≡ Some (get_or (slice_set ys p last) j d)
    there j low = slice_get-get_or (swap_remove ys p d) j d (omega (arith, low, shorter)) ∙ ap Some (get_or-take (length ys - 1) (slice_set ys p last) j d low)

module _ (ks rest : List NodeId) (n : NodeId) (is : rest ≡ swap_remove_by (same_node n) ks) (once : IsDistinct same_node ks) where
  moved : (i : ℕ) (q : NodeId) → slice_get ks i ≡ Some q → same_node q n ≡ false → (j : ℕ) × (j ≤ i) × (slice_get rest j ≡ Some q)
  moved i q at other = split (list_any (same_node n) ks) (λ h. from (place_of_listed ks n h))
      (λ h. (i, omega arith, ap (λ l. slice_get l i) (is ∙ none_taken (same_node n) ks h) ∙ at))
    where
      from : (p : ℕ) × (slice_get ks p ≡ Some n) → (j : ℕ) × (j ≤ i) × (slice_get rest j ≡ Some q)
      from p =
          let lt : p.0 < length ks = slice_get_within ks p.0 n p.1 in
          let there = taken_there (same_node n) ks p.0 (once_at ks p.0 n once p.1) lt in
          let after = swapped ks p.0 there.0 i q lt at
          (λ e. clash (same_node-from_equal q n (some_is (sym at ∙ ap (slice_get ks) e ∙ p.1))) other) in
          (after.0, after.1, ap (λ l. slice_get l after.0) (is ∙ there.1) ∙ after.2)

  removed_one : ((q : NodeId) → list_any (same_node q) rest ≡ (list_any (same_node q) ks && not (same_node q n))) → OnlyLoses ks rest
  removed_one listed = record {
    had = λ q h. (and_both (list_any (same_node q) ks) (not (same_node q n)) (sym (listed q) ∙ h)).0;
    places = record {
      first = λ k q h there.
          let at = below_place ks k q h in
          let lt : at.0 < k = at.1 in
          let now = moved at.0 q at.2 (not_taken (list_any (same_node q) ks) (same_node q n) (sym (listed q) ∙ there)) in
          let le : now.0 ≤ at.0 = now.1 in
          place_below rest k now.0 q (omega (arith, lt, le)) now.2;
    };
  }

-- a node is removed from a transaction's list
pub lost_one : (l l' : LockList) (n : NodeId) → keys l'.entries ≡ keys_of (swap_remove_entry (same_node n) l.entries.entries)
    → ((q : NodeId) → is_listed l' q ≡ (is_listed l q && not (same_node q n))) → OnlyLoses (keys l.entries) (keys l'.entries)
lost_one l l' n is listed =
    removed_one (keys l.entries) (keys l'.entries) n (is ∙ keys_swap_remove_entry (same_node n) l.entries.entries) (unique_in l)
    (λ q. sym (is_some-lookup (same_node q) l'.entries.entries) ∙ listed q
    ∙ ap (λ b. b && not (same_node q n)) (is_some-lookup (same_node q) l.entries.entries))

-- All lists.

pub lists_same : (ls ls' : List LockList) → ((u : ℕ) → nodes_by ls' u ≡ nodes_by ls u) → ListsLose ls ls'
lists_same ls ls' e = record { each = λ u. same_order (nodes_by ls u) (nodes_by ls' u) (e u) }

pub lists_here : (ls : List LockList) → ListsLose ls ls
lists_here ls = lists_same ls ls (λ u. refl)

pub lose_then : {a b c : List LockList} → ListsLose a b → ListsLose b c → ListsLose a c
lose_then ab bc = record { each = λ u. loses_then (ab.each u) (bc.each u) }

pub keep_then : {a b c : List LockList} → ListsKeepPlaces a b → ListsLose b c → ListsKeepPlaces a c
keep_then ab bc = record { each = λ u. keeps_then (ab.each u) (bc.each u) }

pub lists_keep : {a b : List LockList} → ListsLose a b → ListsKeepPlaces a b
lists_keep ab = record { each = λ u. (ab.each u).places }

-- room alone was made
kept_same : (ls ls' : List LockList) → KeepsLists ls ls' → (u : ℕ) → nodes_by ls' u ≡ nodes_by ls u
kept_same ls ls' kept u = order_seen ls' u ∙ ap (λ (es : List (List (NodeId × Entry))). keys_of (get_or es u [])) kept.entries ∙ sym (order_seen ls u)

pub kept_lose : {ls ls' : List LockList} → KeepsLists ls ls' → ListsLose ls ls'
kept_lose {ls} {ls'} kept = lists_same ls ls' (kept_same ls ls' kept)

pub kept_then : {a b c : List LockList} → KeepsLists a b → ListsKeepPlaces b c → ListsKeepPlaces a c
kept_then {a} {b} {c} kept bc = record { each = λ u. subst (λ (order : List NodeId). KeepsPlaces order (nodes_by c u)) (kept_same a b kept u) (bc.each u) }
