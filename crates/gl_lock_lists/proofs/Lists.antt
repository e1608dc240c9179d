-- What a write at one node of a list does at every node, and marks. For lists.
use Rattle.gl_lock_lists.proofs.Words.{◌&&◌, ◌+◌, ◌-◌, ◌<◌, ◌==◌, [], ◌||◌, ◌∙◌, ◌∷◌, ◌≡◌, ◌≤◌, AllByRecursion, ap, ap₂, arith, Bool, cond, count_in, drop}
use Rattle.gl_lock_lists.proofs.Words.{Entry, false, get_or, get_or_from_slice_get, if◌then◌else◌, is_some, IsDistinct, length, length-set, List, list_any}
use Rattle.gl_lock_lists.proofs.Words.{lookup, Mode, mode_in, nat_lt, nat_tests, NL, NodeId, None, not, Option, option_map_or, refl, same_mode, same_node}
use Rattle.gl_lock_lists.proofs.Words.{same_node-equal, slice_get, slice_get-get_or, slice_get_within, slice_set, Some, split, subst, suc, swap_remove, sym}
use Rattle.gl_lock_lists.proofs.Words.{take, true, zero, ℕ}
use Rattle.gl_modes.proofs.NodeLemmas.{same_node-from_equal, same_node-refl, same_node-sym}
use Rattle.gl_modes.proofs.Words.{or_left, or_right, other_number, same_number, some_is}
use Rattle.indexmap.specs.IndexMap.{swap_remove_by}
use Rattle.std.proofs.Common.{lt-ltb}
use Rattle.std.proofs.Math.Bool.{and-false}
use Rattle.std.proofs.lemmas.Bool.{not-true}
use Rattle.std.proofs.lemmas.List.{get_or-set_other, get_or-set_same, get_or-take, length-take-le, take-set, take-take}
use Rattle.std.proofs.lemmas.Map.Keys.{IsDistinct-head, IsDistinct-tail}
use Rattle.std.specs.List.{position_or_len}
use Rattle.std.specs.Prelude.{◌≢◌, map, slice_index_or, unwrap_or}

-- What a write at one node does at every node.

-- fs has o at n, and has at each other node what es has
abbrev pub IsWritten : {X : Type 0} → NodeId → List (NodeId × X) → List (NodeId × X) → Option X → Type 0
IsWritten n es fs o = (q : NodeId) → lookup (same_node q) fs ≡ cond (same_node n q) o (lookup (same_node q) es)

-- an unchanged list is as if its entry at n had been written there
pub IsWritten-same : {X : Type 0} (n : NodeId) (es : List (NodeId × X)) → IsWritten n es es (lookup (same_node n) es)
IsWritten-same n es = λ q. by q (same_node n q) refl
  where
    by : (q : NodeId) (b : Bool) → same_node n q ≡ b → lookup (same_node q) es ≡ cond b (lookup (same_node n) es) (lookup (same_node q) es)
    by q true h = ap (λ x. lookup (same_node x) es) (sym (same_node-equal n q h))
    by q false h = refl

-- of two writes at one node the second remains
pub IsWritten-twice : {X : Type 0} (n : NodeId) (es fs gs : List (NodeId × X)) (o w : Option X) → IsWritten n es fs o → IsWritten n fs gs w
    → IsWritten n es gs w
IsWritten-twice {X = X} n es fs gs o w a b = λ q. b q ∙ ap (cond (same_node n q) w) (a q) ∙ by (same_node n q) (lookup (same_node q) es)
  where
    by : (b : Bool) (x : Option X) → cond b w (cond b o x) ≡ cond b w x
    by true x = refl
    by false x = refl

module _ {X : Type 0} (n : NodeId) (es fs : List (NodeId × X)) (o : Option X) (w : IsWritten n es fs o) where
  written_here : lookup (same_node n) fs ≡ o
  written_here = w n ∙ ap (λ b. cond b o (lookup (same_node n) es)) (same_node-refl n)

  written_apart : (q : NodeId) → same_node q n ≡ false → lookup (same_node q) fs ≡ lookup (same_node q) es
  written_apart q h = w q ∙ ap (λ b. cond b o (lookup (same_node q) es)) (same_node-sym n q ∙ h)

-- What holds at n after a write there to each of two lists, and holds of what stays, holds at each node.
-- C is given whether the node is n, what the two lists had there, and what they have now.
pub at_each : {X Y : Type 0} (C : Bool → Option X → Option Y → Option X → Option Y → Type 0) (n : NodeId) (es fs : List (NodeId × X))
    (ls ms : List (NodeId × Y)) (o : Option X) (k : Option Y)
    → IsWritten n es fs o → IsWritten n ls ms k → C true (lookup (same_node n) es) (lookup (same_node n) ls) o k
    → ((x : Option X) (y : Option Y) → C false x y x y)
    → (q : NodeId) → C (same_node q n) (lookup (same_node q) es) (lookup (same_node q) ls) (lookup (same_node q) fs) (lookup (same_node q) ms)
at_each C n es fs ls ms o k w v here stays q = by (same_node q n) refl
  where
    by : (b : Bool) → same_node q n ≡ b → C b (lookup (same_node q) es) (lookup (same_node q) ls) (lookup (same_node q) fs) (lookup (same_node q) ms)
    by true h =
        subst (λ (q : NodeId). C true (lookup (same_node q) es) (lookup (same_node q) ls) (lookup (same_node q) fs) (lookup (same_node q) ms))
        (sym (same_node-equal q n h))
        (rw (written_here n es fs o w, written_here n ls ms k v) here)
    by false h =
        rw (written_apart n es fs o w q h, written_apart n ls ms k v q h) (stays (lookup (same_node q) es) (lookup (same_node q) ls))

-- What a change keeps or makes of the entry x and the separate count y of one node, as `at_each` needs it: b says whether it is the node of the change, and x'
-- and y' are what it has now.

abbrev pub SameListed : Bool → Option Entry → Option ℕ → Option Entry → Option ℕ → Type 0
SameListed b x y x' y' = is_some x' ≡ is_some x

abbrev pub SameCount : Bool → Option Entry → Option ℕ → Option Entry → Option ℕ → Type 0
SameCount b x y x' y' = count_in x' y' ≡ count_in x y

abbrev pub SameMode : Bool → Option Entry → Option ℕ → Option Entry → Option ℕ → Type 0
SameMode b x y x' y' = mode_in x' ≡ mode_in x

-- a node that was not both listed and counted separately still is not
abbrev pub StaysApart : Bool → Option Entry → Option ℕ → Option Entry → Option ℕ → Type 0
StaysApart b x y x' y' = (is_some x ≡ true → y ≡ None) → is_some x' ≡ true → y' ≡ None

-- only the node of the change is removed
abbrev pub IsTakenOut : Bool → Option Entry → Option ℕ → Option Entry → Option ℕ → Type 0
IsTakenOut b x y x' y' = is_some x' ≡ (is_some x && not b)

pub IsTakenOut-here : (x : Option Entry) → is_some {T = Entry} None ≡ (is_some x && not true)
IsTakenOut-here x = sym (and-false (is_some x))

pub IsTakenOut-apart : (x : Option Entry) (y : Option ℕ) → IsTakenOut false x y x y
IsTakenOut-apart (Some x) y = refl
IsTakenOut-apart None y = refl

-- the separate count of a node that is not listed
pub count_in-unlisted : (x : Option Entry) (y : Option ℕ) → is_some x ≡ false → count_in x y ≡ unwrap_or y 0
count_in-unlisted (Some x) y h = cc
count_in-unlisted None (Some k) h = refl
count_in-unlisted None None h = refl

-- the count at the node of the change is less by so many
abbrev pub CountsDown : ℕ → Bool → Option Entry → Option ℕ → Option Entry → Option ℕ → Type 0
CountsDown less b x y x' y' = count_in x' y' + (if b then less else 0) ≡ count_in x y

-- the last counted children of a node that is not listed
pub CountsDown-last : (x : Option Entry) (y : Option ℕ) (k less : ℕ) → None ≡ x → Some k ≡ y → less ≤ count_in x y → k - less ≡ 0
    → CountsDown less true x y x None
CountsDown-last (Some e) y k less h i some last = cc
CountsDown-last None None k less h i some last = cc
CountsDown-last None (Some j) k less h i some last =
    let same : k ≡ j = cc in
    omega arith

-- The node at a place of a list is marked.

-- the key at a place is that of the entry there
pub key_at : {A : Type 0} (es : List (NodeId × A)) (i : ℕ) (p : NodeId × A) (n : NodeId) → Some p ≡ slice_get es i → slice_get (map (λ e. e.0) es) i ≡ Some n
    → n ≡ p.0
key_at [] i p n is at = absurd (cc)
key_at (e ∷ es) zero p n is at = let same : p ≡ e = cc in let key : e.0 ≡ n = cc in sym key ∙ ap (λ x. x.0) (sym same)
key_at (e ∷ es) (suc i) p n is at = key_at es i p n is at

module _ (covered : NodeId → Bool) (child n q : NodeId) (m : Mode) (same : n ≡ child) where
  pub marks_one : covered child ≡ true → (if same_node q child then NL else m) ≡ (if same_node q n && covered n then NL else m)
  marks_one is = by (same_node q child) ∙ ap₂ (λ a b. if a && b then NL else m) (ap (same_node q) (sym same)) (sym (ap covered same ∙ is))
    where
      by : (a : Bool) → (if a then NL else m) ≡ (if a && true then NL else m)
      by true = refl
      by false = refl

  pub marks_none : covered child ≡ false → m ≡ (if same_node q n && covered n then NL else m)
  marks_none off = by (same_node q n) ∙ ap (λ b. if same_node q n && b then NL else m) (sym (ap covered same ∙ off))
    where
      by : (a : Bool) → m ≡ (if a && false then NL else m)
      by true = refl
      by false = refl

-- a held node is not marked
pub held_not : (m : Mode) → not (same_mode m NL) ≡ true → same_mode m NL ≡ false
held_not m h = not-true (same_mode m NL) h

-- if a test fails at a place and after it, it fails from that place on
pub first_or_later : {A : Type 0} (es : List (NodeId × A)) (at : ℕ) (p : NodeId × A) → Some p ≡ slice_get es at → (test : NodeId → Bool) → test p.0 ≡ false
    → ((i : ℕ) (n : NodeId) → at + 1 ≤ i → slice_get (map (λ e. e.0) es) i ≡ Some n → test n ≡ false) → (i : ℕ) (n : NodeId) → at ≤ i
    → slice_get (map (λ e. e.0) es) i ≡ Some n → test n ≡ false
first_or_later es at p is test here later i n le found = split (nat_lt at i)
    (λ e. let lt : at < i = grind (arith, nat_tests) in later i n (omega arith) found)
    (λ e. let same : i ≡ at = grind (arith, nat_tests) in ap test (key_at es at p n is (ap (slice_get (map (λ x. x.0) es)) (sym same) ∙ found)) ∙ here)

-- an item that passes is no earlier than the first that passes
pub first_place : {K : Type 0} (t : K → Bool) (xs : List K) (at : ℕ) (n : K) → slice_get xs at ≡ Some n → t n ≡ true → position_or_len t xs ≤ at
first_place t [] at n is h = absurd (cc)
first_place t (x ∷ xs) zero n is h =
    let same : x ≡ n = cc in
    let none : cond (not (t x)) (1 + position_or_len t xs) 0 ≡ 0 = ap (λ b. cond (not b) (1 + position_or_len t xs) 0) (ap t same ∙ h) in
    omega (arith, none)
first_place t (x ∷ xs) (suc at) n is h =
    let rest : position_or_len t xs ≤ at = first_place t xs at n is h in
    split (t x)
    (λ e. let none : cond (not (t x)) (1 + position_or_len t xs) 0 ≡ 0 = ap (λ b. cond (not b) (1 + position_or_len t xs) 0) e in omega (arith, none))
    (λ e. let more : cond (not (t x)) (1 + position_or_len t xs) 0 ≡ 1 + position_or_len t xs = ap (λ b. cond (not b) (1 + position_or_len t xs) 0) e in
    omega (arith, more, rest))

-- the list after the last item is moved to an earlier place
module _ {K : Type 0} (ys : List K) (p at : ℕ) (d n : K) (le : p ≤ at) (here : slice_get ys at ≡ Some n) where
  within : at < length ys
  within = slice_get_within ys at n here

  pub moved_length : length (swap_remove ys p d) ≡ length ys - 1
  moved_length = length-take-le (length ys - 1) (slice_set ys p (slice_index_or ys (length ys - 1) d))
      (let same = length-set ys p (slice_index_or ys (length ys - 1) d) in omega (arith, same))

  pub moved_later : (i : ℕ) (m : K) → at ≤ i → slice_get (swap_remove ys p d) i ≡ Some m → m ≢ n → (k : ℕ) × (at + 1 ≤ k) × (slice_get ys k ≡ Some m)
  moved_later i m low found other = split (i == p)
      (λ e. (
        length ys - 1,
        (let same : i ≡ p = same_number i p e in omega (arith, within, short, same)),
        slice_get-get_or ys (length ys - 1) d (omega (arith, within))
            ∙ ap Some (sym (get_or-set_same ys p last d (omega (arith, within, le))) ∙ ap (λ k. get_or (slice_set ys p last) k d) (sym (same_number i p e))
            ∙ sym is),
      ))
      (λ e. let same : slice_get ys i ≡ Some m = slice_get-get_or ys i d (omega (arith, within, short))
      ∙ ap Some (sym (get_or-set_other ys p i last d (other_number i p e)) ∙ sym is) in
      split (i == at) (λ f. absurd (other (some_is (sym same ∙ ap (slice_get ys) (same_number i at f) ∙ here))))
      (λ f. let apart = other_number i at f in (i, grind (arith, nat_tests), same)))
    where
      last : K
      last = slice_index_or ys (length ys - 1) d

      short : i < length ys - 1
      short = let lt = slice_get_within (swap_remove ys p d) i m found in omega (arith, lt, moved_length)

      is : m ≡ get_or (slice_set ys p last) i d
      is = sym (get_or_from_slice_get (swap_remove ys p d) i m d found) ∙ get_or-take (length ys - 1) (slice_set ys p last) i d short

-- the first item that passes is removed
taken_first : {K : Type 0} (t : K → Bool) (ks : List K) (at : ℕ) (n : K) → slice_get ks at ≡ Some n → t n ≡ true → (p : ℕ) × (d : K) × (p ≤ at)
    × (swap_remove_by t ks ≡ swap_remove ks p d)
taken_first t [] at n is h = absurd (cc)
taken_first t (x ∷ xs) at n is h =
    let p = position_or_len t (x ∷ xs) in
    let le : p ≤ at = first_place t (x ∷ xs) at n is h in
    let lt : at < length (x ∷ xs) = slice_get_within (x ∷ xs) at n is in
    let inside : nat_lt p (length (x ∷ xs)) ≡ true = lt-ltb p (length (x ∷ xs)) (omega (arith, le, lt)) in
    (p, x, le, ap (λ b. option_map_or (λ i. swap_remove (x ∷ xs) i x) (cond b (Some p) None) (x ∷ xs)) inside)

-- the node at a place is among them
pub listed_at : (ks : List NodeId) (i : ℕ) (m : NodeId) → slice_get ks i ≡ Some m → list_any (same_node m) ks ≡ true
listed_at [] i m is = absurd (cc)
listed_at (k ∷ ks) zero m is = or_left (same_node m k) (list_any (same_node m) ks) (same_node-from_equal m k (sym (some_is is)))
listed_at (k ∷ ks) (suc i) m is = or_right (same_node m k) (list_any (same_node m) ks) (listed_at ks i m is)

-- the node at a place is removed, and the last one is moved to a place no later than its own
module _ (ks rest : List NodeId) (at : ℕ) (n : NodeId) (is : rest ≡ swap_remove_by (same_node n) ks) (here : slice_get ks at ≡ Some n) where
  taken : (p : ℕ) × (d : NodeId) × (p ≤ at) × (swap_remove_by (same_node n) ks ≡ swap_remove ks p d)
  taken = taken_first (same_node n) ks at n here (same_node-refl n)

  pub still_within : at ≤ length rest
  still_within =
      let lt : at < length ks = slice_get_within ks at n here in
      let shorter : length rest ≡ length ks - 1 = ap length (is ∙ taken.3) ∙ moved_length ks taken.0 at taken.1 n taken.2 here in
      omega (arith, lt, shorter)

  pub still_passed : (test now : NodeId → Bool) → ((m : NodeId) → m ≢ n → now m ≡ test m) → ((m : NodeId) → list_any (same_node m) rest ≡ true → m ≢ n)
      → ((i : ℕ) (m : NodeId) → at + 1 ≤ i → slice_get ks i ≡ Some m → test m ≡ false) → (i : ℕ) (m : NodeId) → at ≤ i → slice_get rest i ≡ Some m
      → now m ≡ false
  still_passed test now same gone later i m low found =
      let other : m ≢ n = gone m (listed_at rest i m found) in
      let was = moved_later ks taken.0 at taken.1 n taken.2 here i m low (ap (λ l. slice_get l i) (sym (is ∙ taken.3)) ∙ found) other in
      same m other ∙ later was.0 m was.1 was.2

-- a node that is among them has a place
pub place_of_listed : (ks : List NodeId) (n : NodeId) → list_any (same_node n) ks ≡ true → (i : ℕ) × (slice_get ks i ≡ Some n)
place_of_listed [] n h = absurd (cc)
place_of_listed (k ∷ ks) n h = split (same_node n k) (λ e. (0, ap Some (sym (same_node-equal n k e))))
    (λ e. let rest = place_of_listed ks n (sym (ap (λ b. b || list_any (same_node n) ks) e) ∙ h) in (suc rest.0, rest.1))

-- the same among those from a place on
pub place_from : (ks : List NodeId) (mark : ℕ) (n : NodeId) → list_any (same_node n) (drop mark ks) ≡ true → (i : ℕ) × (mark ≤ i) × (slice_get ks i ≡ Some n)
place_from ks zero n h = let at = place_of_listed ks n h in (at.0, omega arith, at.1)
place_from [] (suc mark) n h = absurd (cc)
place_from (k ∷ ks) (suc mark) n h = let rest = place_from ks mark n h in let low : mark ≤ rest.0 = rest.1 in (suc rest.0, omega (arith, low), rest.2)

-- a node after another is a different one, if no node is listed twice
later_differs : (k : NodeId) (ks : List NodeId) (at : ℕ) (n : NodeId) → AllByRecursion (λ y. same_node k y ≡ false) ks → slice_get ks at ≡ Some n
    → same_node k n ≡ false
later_differs k [] at n h here = absurd (cc)
later_differs k (x ∷ xs) zero n h here = ap (same_node k) (sym (some_is here)) ∙ h.0
later_differs k (x ∷ xs) (suc at) n h here = later_differs k xs at n h.1 here

-- so the first of a node is the one at its place
pub once_at : (ks : List NodeId) (at : ℕ) (n : NodeId) → IsDistinct same_node ks → slice_get ks at ≡ Some n → position_or_len (same_node n) ks ≡ at
once_at [] at n once here = absurd (cc)
once_at (k ∷ ks) zero n once here =
    ap (λ b. cond (not b) (1 + position_or_len (same_node n) ks) 0) (same_node-from_equal n k (sym (some_is here)))
once_at (k ∷ ks) (suc at) n once here =
    let rest : position_or_len (same_node n) ks ≡ at = once_at ks at n (IsDistinct-tail same_node k ks once) here in
    let more : cond (not (same_node n k)) (1 + position_or_len (same_node n) ks) 0 ≡ 1 + position_or_len (same_node n) ks =
    ap (λ b. cond (not b) (1 + position_or_len (same_node n) ks) 0)
    (same_node-sym n k ∙ later_differs k ks at n (IsDistinct-head same_node k ks once) here) in
    omega (arith, more, rest)

-- and it is not before it
pub none_before : (ks : List NodeId) (at : ℕ) (n : NodeId) → IsDistinct same_node ks → slice_get ks at ≡ Some n → list_any (same_node n) (take at ks) ≡ false
none_before [] at n once here = absurd (cc)
none_before (k ∷ ks) zero n once here = refl
none_before (k ∷ ks) (suc at) n once here =
    ap₂ (λ a b. a || b) (same_node-sym n k ∙ later_differs k ks at n (IsDistinct-head same_node k ks once) here)
    (none_before ks at n (IsDistinct-tail same_node k ks once) here)

-- the first that passes is removed from its place
pub taken_there : {K : Type 0} (t : K → Bool) (ks : List K) (at : ℕ) → position_or_len t ks ≡ at → at < length ks
    → (d : K) × (swap_remove_by t ks ≡ swap_remove ks at d)
taken_there t [] at first lt = absurd (omega arith)
taken_there t (x ∷ xs) at first lt = (
  x,
  ap (λ p. option_map_or (λ i. swap_remove (x ∷ xs) i x) (cond (nat_lt p (length (x ∷ xs))) (Some p) None) (x ∷ xs)) first
      ∙ ap (λ b. option_map_or (λ i. swap_remove (x ∷ xs) i x) (cond b (Some at) None) (x ∷ xs)) (lt-ltb at (length (x ∷ xs)) lt),
)

-- a node is removed from a list that has no node twice
module _ (ks rest : List NodeId) (n : NodeId) (is : rest ≡ swap_remove_by (same_node n) ks) where
  -- those before it stay
  pub stay_before : IsDistinct same_node ks → (at : ℕ) → slice_get ks at ≡ Some n → take at rest ≡ take at ks
  stay_before once at here =
      let lt : at < length ks = slice_get_within ks at n here in
      let there = taken_there (same_node n) ks at (once_at ks at n once here) lt in
      let last : NodeId = slice_index_or ks (length ks - 1) there.0 in
      ap (take at) (is ∙ there.1) ∙ take-take at (length ks - 1) (slice_set ks at last) (omega (arith, lt)) ∙ take-set ks at last

  -- and it was one
  pub one_fewer : list_any (same_node n) ks ≡ true → length rest + 1 ≡ length ks
  one_fewer among =
      let at = place_of_listed ks n among in
      let lt : at.0 < length ks = slice_get_within ks at.0 n at.1 in
      let there = taken_first (same_node n) ks at.0 n at.1 (same_node-refl n) in
      let shorter : length rest ≡ length ks - 1 = ap length (is ∙ there.3) ∙ moved_length ks there.0 at.0 there.1 n there.2 at.1 in
      omega (arith, lt, shorter)

-- a node that is still listed was not removed
pub not_taken : (a b : Bool) → (a && not b) ≡ true → b ≡ false
not_taken a false h = refl
not_taken true true h = sym h
not_taken false true h = sym h
