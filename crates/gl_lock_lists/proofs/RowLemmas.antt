-- What a scan of entries finds, and the entries after one is inserted or removed. For both forms of a map of nodes.
use Rattle.gl_lock_lists.proofs.Words.{◌+◌, ◌++◌, ◌<◌, [], ◌∙◌, ◌∷◌, ◌≡◌, AllByRecursion, ap, arith, Bool, cond, drop, false, get_or, hash_map, insert_entry}
use Rattle.gl_lock_lists.proofs.Words.{is_some, is_some-lookup, keys_of, length, List, lookup, nil_from_length, NodeId, None, Option, option_map, Out, position}
use Rattle.gl_lock_lists.proofs.Words.{refl, same_node, same_node-equal, set_value_at, slice_get, slice_get-get_or, slice_get-map, slice_set, Some, subst, suc}
use Rattle.gl_lock_lists.proofs.Words.{swap_out, swap_remove, sym, take, take_more, true, zero, ℕ}
use Rattle.std.proofs.Common.{take-append-drop}
use Rattle.std.proofs.lemmas.List.{append-nil, drop_more, map_push}
use Rattle.std.proofs.lemmas.List.Quantifiers.{position-Some}
use Rattle.std.proofs.lemmas.Map.Keys.{IsDistinct-push}
use Rattle.std.specs.Cmp.{IsEquivalence}
use Rattle.std.specs.List.{IsDistinct}
use Rattle.std.specs.Map.{KeepsOthers, set_value}
use Rattle.indexmap.specs.IndexMap.{Updates}
use Rattle.indexmap.proofs.CallerLemmas.{insert_entry-new}
use Rattle.indexmap.proofs.MapLemmas.{absent_before, index-absent, index-first}
use Rattle.indexmap.proofs.RemoveLemmas.{none_out, own_first}
use Rattle.gl_modes.proofs.Words.{none_some, some_is}
use Rattle.gl_modes.proofs.NodeLemmas.{same_node-refl, same_node-sym}

pub node_equivalence : IsEquivalence same_node
node_equivalence = record { refl = same_node-refl; symm = same_node-sym; congr = λ a b c h. ap (λ x. same_node x c) (same_node-equal a b h) }

-- there is nothing after the entries
pub nothing_after : {X : Type 0} (xs ys : List X) → length ys ≡ 0 → xs ++ ys ≡ xs
nothing_after xs ys h = ap (λ l. xs ++ l) (nil_from_length ys h) ∙ append-nil xs

module _ {V : Type 0} where
  all_other : (n : NodeId) (es : List (NodeId × V)) → ((i : ℕ) (d : NodeId × V) → i < length es → same_node (get_or es i d).0 n ≡ false)
      → AllByRecursion (λ k. same_node n k ≡ false) (keys_of es)
  all_other n [] h = tt
  all_other n (e ∷ es) h = (same_node-sym n e.0 ∙ h 0 e (omega arith), all_other n es (λ i d lt. h (suc i) d (omega arith)))

  -- if no entry has the node, it is not found
  pub no_place : (n : NodeId) (es : List (NodeId × V)) → ((i : ℕ) (d : NodeId × V) → i < length es → same_node (get_or es i d).0 n ≡ false)
      → position (same_node n) (keys_of es) ≡ None
  no_place n es h = index-absent (same_node n) es (all_other n es h)

  -- an entry is at the place where its node is found
  pub place_of_row : (es : List (NodeId × V)) → IsDistinct same_node (keys_of es) → (i : ℕ) (p : NodeId × V) → slice_get es i ≡ Some p
      → position (same_node p.0) (keys_of es) ≡ Some i
  place_of_row es distinct i p at = index-first (same_node p.0) es i (own_first same_node node_equivalence es i p.0 p.1 distinct at)

  -- the entry that has the node is where the node is found
  pub place_found : (es : List (NodeId × V)) → IsDistinct same_node (keys_of es) → (n : NodeId) (i : ℕ) (d : NodeId × V) → i < length es
      → same_node (get_or es i d).0 n ≡ true → position (same_node n) (keys_of es) ≡ Some i
  place_found es distinct n i d lt h =
      subst (λ (k : NodeId). position (same_node k) (keys_of es) ≡ Some i) (same_node-equal (get_or es i d).0 n h)
      (place_of_row es distinct i (get_or es i d) (slice_get-get_or es i d lt))

  -- fs is es with o at the node n, and has at each other node what es has
  abbrev pub Writes : NodeId → List (NodeId × V) → List (NodeId × V) → Option V → Type 0
  Writes n es fs o = Updates same_node (hash_map {S = Unit {0}} es tt 0) (hash_map {S = Unit {0}} fs tt 0) n o

  -- the entries after the one at a place is removed and the last one takes its place
  pub row_out : (es : List (NodeId × V)) → IsDistinct same_node (keys_of es) → (i : ℕ) (p : NodeId × V) → slice_get es i ≡ Some p
      → (fs : List (NodeId × V)) → fs ≡ swap_remove es i p → Out same_node node_equivalence (same_node p.0) es fs p
  row_out es distinct i p at fs after =
      swap_out same_node node_equivalence (same_node p.0) (node_equivalence.congr p.0) es i p (place_of_row es distinct i p at) at distinct fs after

  -- if no entry has the node, all stays
  pub none_taken : (n : NodeId) (es : List (NodeId × V)) → position (same_node n) (keys_of es) ≡ None → Writes n es es None
  none_taken n es none = none_out same_node node_equivalence (same_node n) (node_equivalence.congr n) es es none refl

  miss : (t : NodeId → Bool) (k : NodeId) (v : V) → t k ≡ false → (es : List (NodeId × V)) → lookup t (es ++ (k, v) ∷ []) ≡ lookup t es
  miss t k v h [] = ap (λ b. cond b (Some v) None) h
  miss t k v h (e ∷ es) = ap (λ l. cond (t e.0) (Some e.1) l) (miss t k v h es)

  hit : (t : NodeId → Bool) (k : NodeId) (v : V) → t k ≡ true → (es : List (NodeId × V)) → lookup t es ≡ None → lookup t (es ++ (k, v) ∷ []) ≡ Some v
  hit t k v h [] none = ap (λ b. cond b (Some v) None) h
  hit t k v h (e ∷ es) none = by (t e.0) (λ f. hit t k v h es f) none
    where
      by : (b : Bool) → (lookup t es ≡ None → lookup t (es ++ (k, v) ∷ []) ≡ Some v) → cond b (Some e.1) (lookup t es) ≡ None
          → cond b (Some e.1) (lookup t (es ++ (k, v) ∷ [])) ≡ Some v
      by true rest none = cc
      by false rest none = rest none

  -- an entry that is inserted last
  pub put_last : (n : NodeId) (v : V) (es : List (NodeId × V)) → lookup (same_node n) es ≡ None → Writes n es (es ++ (n, v) ∷ []) (Some v)
  unfolding KeepsOthers
  put_last n v es none = (
    λ q. by q (same_node n q) refl,
    hit (same_node n) n v (same_node-refl n) es none,
    λ q h. miss (same_node q) n v (same_node-sym q n ∙ h) es,
    λ other key apart. miss other n v (apart n (same_node-refl n)) es,
  )
    where
      by : (q : NodeId) (b : Bool) → same_node n q ≡ b → lookup (same_node q) (es ++ (n, v) ∷ []) ≡ cond b (Some v) (lookup (same_node q) es)
      by q true h =
          let same = same_node-equal n q h in
          hit (same_node q) n v (same_node-sym q n ∙ h) es (ap (λ x. lookup (same_node x) es) (sym same) ∙ none)
      by q false h = miss (same_node q) n v (same_node-sym q n ∙ h) es

  -- and the nodes still differ
  pub put_last-distinct : (n : NodeId) (v : V) (es : List (NodeId × V)) → lookup (same_node n) es ≡ None → IsDistinct same_node (keys_of es)
      → IsDistinct same_node (keys_of (es ++ (n, v) ∷ []))
  put_last-distinct n v es none distinct =
      subst (IsDistinct same_node) (sym (map_push (λ e. e.0) es (n, v)))
      (IsDistinct-push node_equivalence (keys_of es) n distinct (sym (is_some-lookup (same_node n) es) ∙ ap is_some none))

  -- the same for equal lists
  pub writes_as : (n : NodeId) (es fs es' fs' : List (NodeId × V)) (o : Option V) → es' ≡ es → fs' ≡ fs → Writes n es fs o → Writes n es' fs' o
  writes_as n es fs es' fs' o same now w = subst (λ l. Writes n l fs' o) (sym same) (subst (λ l. Writes n es l o) (sym now) w)

  -- the entries before a place, and the one there
  pub put_next : (rows es : List (NodeId × V)) (i : ℕ) (d : NodeId × V) → i < length rows → IsDistinct same_node (keys_of rows) → es ≡ take i rows
      → insert_entry same_node es (get_or rows i d).0 (get_or rows i d).1 ≡ take (i + 1) rows
  put_next rows es i d lt distinct is =
      let row = get_or rows i d in
      let parts : rows ≡ take i rows ++ row ∷ drop (i + 1) rows = sym (take-append-drop i rows) ∙ ap (λ l. take i rows ++ l) (drop_more rows i d lt) in
      let none : lookup (same_node row.0) (take i rows) ≡ None =
      absent_before node_equivalence (take i rows) (drop (i + 1) rows) row (subst (λ l. IsDistinct same_node (keys_of l)) parts distinct) in
      ap (λ l. insert_entry same_node l row.0 row.1) is
      ∙ insert_entry-new same_node (hash_map {S = Unit {0}} (take i rows) tt 0) row.0 row.1 none ∙ sym (take_more rows i d lt)

  -- a value that is written in an entry is written at its place
  pub row_set : (es : List (NodeId × V)) (i : ℕ) (p : NodeId × V) (w : V) → slice_get es i ≡ Some p → slice_set es i (p.0, w) ≡ set_value_at es i w
  row_set [] i p w at = refl
  row_set (e ∷ es) zero p w at = let same : e ≡ p = cc in ap (λ k. (k, w) ∷ es) (ap (λ x. x.0) (sym same))
  row_set (e ∷ es) (suc i) p w at = ap (λ l. e ∷ l) (row_set es i p w at)

  other_at : (n : NodeId) (es : List (NodeId × V)) (i : ℕ) (p : NodeId × V) → AllByRecursion (λ k. same_node n k ≡ false) (keys_of es)
      → slice_get es i ≡ Some p → same_node n p.0 ≡ false
  other_at n [] i p h at = absurd (cc)
  other_at n (e ∷ es) zero p h at = let same : e ≡ p = cc in ap (λ x. same_node n x.0) (sym same) ∙ h.0
  other_at n (e ∷ es) (suc i) p h at = other_at n es i p h.1 at

  -- what is written at the place of an entry is written at its node
  pub set_there : (es : List (NodeId × V)) → IsDistinct same_node (keys_of es) → (i : ℕ) (p : NodeId × V) (w : V) → slice_get es i ≡ Some p
      → set_value_at es i w ≡ set_value (same_node p.0) es w
  unfolding IsDistinct
  set_there [] distinct i p w at = refl
  set_there (e ∷ es) distinct zero p w at =
      let same : e ≡ p = cc in
      let here : same_node p.0 e.0 ≡ true = ap (λ x. same_node x.0 e.0) (sym same) ∙ same_node-refl e.0 in
      sym (ap (λ b. cond b ((e.0, w) ∷ es) (e ∷ set_value (same_node p.0) es w)) here)
  set_there (e ∷ es) distinct (suc i) p w at =
      let other : same_node p.0 e.0 ≡ false = same_node-sym p.0 e.0 ∙ other_at e.0 es i p distinct.0 at in
      ap (λ l. e ∷ l) (set_there es distinct.1 i p w at) ∙ sym (ap (λ b. cond b ((e.0, w) ∷ es) (e ∷ set_value (same_node p.0) es w)) other)

  -- if no entry has the node, nothing is written
  pub set_nowhere : (t : NodeId → Bool) (es : List (NodeId × V)) (w : V) → lookup t es ≡ None → set_value t es w ≡ es
  set_nowhere t [] w none = refl
  set_nowhere t (e ∷ es) w none = by (t e.0) (set_nowhere t es w) none
    where
      by : (b : Bool) → (lookup t es ≡ None → set_value t es w ≡ es) → cond b (Some e.1) (lookup t es) ≡ None
          → cond b ((e.0, w) ∷ es) (e ∷ set_value t es w) ≡ e ∷ es
      by true rest none = absurd (cc)
      by false rest none = ap (λ l. e ∷ l) (rest none)

  -- the entry at the place where a node is found
  pub row_at : (n : NodeId) (es : List (NodeId × V)) (i : ℕ) → position (same_node n) (keys_of es) ≡ Some i → (v : V) × (slice_get es i ≡ Some (n, v))
  row_at n es i at = by (slice_get es i) refl
    where
      ks : List NodeId
      ks = keys_of es

      found : (i < length ks) × (same_node n (get_or ks i n) ≡ true)
      found = let all = position-Some (same_node n) ks i n at in (all.0, all.1)

      key : slice_get ks i ≡ Some n
      key = slice_get-get_or ks i n found.0 ∙ ap Some (sym (same_node-equal n (get_or ks i n) found.1))

      by : (o : Option (NodeId × V)) → slice_get es i ≡ o → (v : V) × (slice_get es i ≡ Some (n, v))
      by None e = absurd (none_some (sym (slice_get-map (λ r. r.0) es i ∙ ap (option_map (λ r. r.0)) e) ∙ key))
      by (Some p) e =
          let same : p.0 ≡ n = some_is (sym (slice_get-map (λ r. r.0) es i ∙ ap (option_map (λ r. r.0)) e) ∙ key) in
          (p.1, e ∙ ap (λ k. Some (k, p.1)) same)
