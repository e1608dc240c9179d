-- Headers at the places that their nodes' keys name: a look-up there finds the node's header, and a write there changes that header alone.
use Rattle.gl_header.proofs.Words.{◌&&◌, ◌+◌, ◌++◌, ◌<◌, ◌==◌, [], ◌∙◌, ◌∷◌, ◌≡◌, ◌≢◌, ◌≤◌, ⊎_elim, AllByRecursion, ap, ap₂, AreDistinct, AreHeaders, ArePlaces}
use Rattle.gl_header.proofs.Words.{arith, Bool, cases_eq, cases_lt, cases_of, cond, Entries, entries_in, false, Free, get_or_past, header_at, header_in}
use Rattle.gl_header.proofs.Words.{HeaderState, IsOf, IsPlace, length, List, NodeId, None, number_same, Option, Place, place_at, refl, same_node}
use Rattle.gl_header.proofs.Words.{same_node-equal, same_node-sym, slice_set, Some, split, stands, subst, suc, sym, take, true, zero, ℕ}
use Rattle.std.proofs.Common.{◌-◌}
use Rattle.std.proofs.lemmas.List.{get_or-append_right, get_or-set_other, get_or-set_same, get_or_append_left, take_all}
use Rattle.std.specs.List.{AppendsResults, FoldsTo}
unfoldable use Rattle.std.specs.List.{IsDistinct}
use Rattle.std.specs.Map.{keys_of}
use Rattle.gl_modes.proofs.NodeLemmas.{same_node-differ}
use Rattle.gl_modes.proofs.Words.{none_some, same_number, some_is}
use Rattle.gl_header.specs.Places.{entered, entries_from}
use Rattle.gl_header.proofs.Changed.{IsChanged}

-- what is stored at a place: a birth and a header
abbrev pub Standing : Type 0
Standing = Option (ℕ × HeaderState)

-- nodes of other keys are other nodes
other_key : (n m : NodeId) → n.key ≢ m.key → same_node n m ≡ false
other_key n m ne = same_node-differ n m (λ e. ne (ap (λ (x : NodeId). x.key) e))

-- nodes with the same key differ in their births
same_key : (n m : NodeId) → n.key ≡ m.key → same_node n m ≡ (n.birth == m.birth)
same_key n m e = ap (λ b. b && (n.birth == m.birth)) (number_same n.key m.key e)

-- a look-up among entries with one more at the front

look-past : (n : NodeId) (k : ℕ) (s : Standing) (es : Entries) → n.key ≢ k → header_at (entered k s es) n ≡ header_at es n
look-past n k None es ne = refl
look-past n k (Some s) es ne = ap (λ t. cond t (Some s.1) (header_at es n)) (other_key n (record { key = k; birth = s.0 }) ne)

look-here : (n : NodeId) (k : ℕ) (s : Standing) (es : Entries) → n.key ≡ k → header_at es n ≡ None → header_at (entered k s es) n ≡ header_in n.birth s
look-here n k None es e none = none
look-here n k (Some s) es e none =
    ap₂ (λ t o. cond t (Some s.1) o) (same_key n (record { key = k; birth = s.0 }) e) none

-- a node of a lower key has no header there
none-below : (from : ℕ) (ps : List Place) (n : NodeId) → n.key < from → header_at (entries_from from ps) n ≡ None
none-below from [] n lt = refl
none-below from (p ∷ ps) n lt =
    look-past n from (stands p) (entries_from (from + 1) ps) (λ e. absurd (omega arith)) ∙ none-below (from + 1) ps n (omega arith)

-- a look-up finds what is stored at the place of the node's key
found-from : (from : ℕ) (ps : List Place) (n : NodeId) (k : ℕ) → n.key ≡ from + k
    → header_at (entries_from from ps) n ≡ header_in n.birth (stands (place_at ps k))
found-from from [] n k e = refl
found-from from (p ∷ ps) n zero e =
    look-here n from (stands p) (entries_from (from + 1) ps) (omega arith) (none-below (from + 1) ps n (omega arith))
found-from from (p ∷ ps) n (suc k) e =
    look-past n from (stands p) (entries_from (from + 1) ps) (λ x. absurd (omega arith)) ∙ found-from (from + 1) ps n k (omega arith)

pub found : (ps : List Place) (n : NodeId) → header_at (entries_in ps) n ≡ header_in n.birth (stands (place_at ps n.key))
found ps n = found-from 0 ps n n.key (omega arith)

-- no node is there twice

-- no entry is n's
abbrev IsAway : NodeId → Entries → Type 0
IsAway n es = AllByRecursion (λ m. same_node n m ≡ false) (keys_of es)

away-entered : (n : NodeId) (k : ℕ) (s : Standing) (es : Entries) → n.key ≢ k → IsAway n es → IsAway n (entered k s es)
away-entered n k None es ne away = away
away-entered n k (Some s) es ne away = (other_key n (record { key = k; birth = s.0 }) ne, away)

away-below : (from : ℕ) (ps : List Place) (n : NodeId) → n.key < from → IsAway n (entries_from from ps)
away-below from [] n lt = tt
away-below from (p ∷ ps) n lt =
    away-entered n from (stands p) (entries_from (from + 1) ps) (λ e. absurd (omega arith)) (away-below (from + 1) ps n (omega arith))

distinct-entered : (k : ℕ) (s : Standing) (es : Entries) → ((n : NodeId) → n.key ≡ k → IsAway n es) → AreDistinct es → AreDistinct (entered k s es)
unfolding IsDistinct
distinct-entered k None es away d = d
distinct-entered k (Some s) es away d = (away (record { key = k; birth = s.0 }) refl, d)

distinct-from : (from : ℕ) (ps : List Place) → AreDistinct (entries_from from ps)
unfolding IsDistinct
distinct-from from [] = tt
distinct-from from (p ∷ ps) =
    distinct-entered from (stands p) (entries_from (from + 1) ps) (λ n e. away-below (from + 1) ps n (omega arith)) (distinct-from (from + 1) ps)

pub distinct : (ps : List Place) → AreDistinct (entries_in ps)
distinct ps = distinct-from 0 ps

-- the header that is found at a place is stored there, with the birth
pub in-place : (b : ℕ) (s : Standing) (h : HeaderState) → header_in b s ≡ Some h → s ≡ Some (b, h)
in-place b None h e = absurd (none_some e)
in-place b (Some s) h e = split (b == s.0)
    (λ yes. ap Some (pair (sym (same_number b s.0 yes)) (some_is (sym (ap (λ t. cond t (Some s.1) None) yes) ∙ e))))
    (λ no. absurd (none_some (sym (ap (λ t. cond t (Some s.1) None) no) ∙ e)))
  where
    pair : s.0 ≡ b → s.1 ≡ h → s ≡ (b, h)
    pair x y = λ i. (x i, y i)

-- the header that a look-up finds is at the node's place
pub standing : (ps : List Place) (n : NodeId) (h : HeaderState) → header_at (entries_in ps) n ≡ Some h → stands (place_at ps n.key) ≡ Some (n.birth, h)
standing ps n h e = in-place n.birth (stands (place_at ps n.key)) h (sym (found ps n) ∙ e)

pub are_headers : (ps : List Place) → ArePlaces ps → AreHeaders (entries_in ps)
are_headers ps a = record {
  lawful = λ n h e. (a.each n.key).lawful (n.birth, h) (standing ps n h e);
  used = λ n h e. (a.each n.key).used (n.birth, h) (standing ps n h e);
}

-- A write at one place.

-- the place of k has x now, and each other what it had
pub record IsPut (ps ps' : List Place) (k : ℕ) (x : Place) : Type 0 where
  pub at : place_at ps' k ≡ x
  pub others : (j : ℕ) → j ≢ k → place_at ps' j ≡ place_at ps j

pub put-set : (ps : List Place) (k : ℕ) (x : Place) → k < length ps → IsPut ps (slice_set ps k x) k x
put-set ps k x lt = record {
  at = get_or-set_same ps k x Free lt;
  others = λ j ne. get_or-set_other ps k j x Free ne;
}

pub places-put : (ps ps' : List Place) (k : ℕ) (x : Place) → IsPut ps ps' k x → ArePlaces ps → IsPlace x → ArePlaces ps'
places-put ps ps' k x put a is = record {
  each = λ j. ⊎_elim
      (λ e. subst IsPlace (sym (ap (place_at ps') e ∙ put.at)) is)
      (λ ne. subst IsPlace (sym (put.others j ne)) (a.each j)) (cases_eq j k);
}

-- another node of the key has no header at a place of n
pub none_but : (n : NodeId) (p : Place) → IsOf n.birth p → (q : NodeId) → same_node n q ≡ false → q.key ≡ n.key → header_in q.birth (stands p) ≡ None
none_but n p own q ne k = cases_of (stands p)
    (λ none. ap (header_in q.birth) none)
    (λ s some. ap (header_in q.birth) some ∙ ap (λ t. cond t (Some s.1) None)
    (ap (λ b. q.birth == b) (own.birth s some) ∙ (sym (same_key q n k) ∙ (same_node-sym q n ∙ ne))))

-- a write at the place of n changes the header of n alone
pub changed-put : (ps ps' : List Place) (n : NodeId) (x : Place) → IsPut ps ps' n.key x → IsOf n.birth (place_at ps n.key) → IsOf n.birth x
    → IsChanged (entries_in ps) (entries_in ps') n (header_in n.birth (stands x))
changed-put ps ps' n x put before after = record { at = λ q. found ps' q ∙ by q (same_node n q) refl }
  where
    by : (q : NodeId) (t : Bool) → same_node n q ≡ t
        → header_in q.birth (stands (place_at ps' q.key)) ≡ cond t (header_in n.birth (stands x)) (header_at (entries_in ps) q)
    by q true is = ap (λ (m : NodeId). header_in m.birth (stands (place_at ps' m.key))) (sym (same_node-equal n q is))
        ∙ ap (λ p. header_in n.birth (stands p)) put.at
    by q false is = ⊎_elim
        (λ k. ap (λ j. header_in q.birth (stands (place_at ps' j))) k ∙ (ap (λ p. header_in q.birth (stands p)) put.at ∙ (none_but n x after q is k
        ∙ (sym (none_but n (place_at ps n.key) before q is k)
        ∙ (sym (ap (λ j. header_in q.birth (stands (place_at ps j))) k) ∙ sym (found ps q))))))
        (λ ne. ap (λ p. header_in q.birth (stands p)) (put.others q.key ne) ∙ sym (found ps q)) (cases_eq q.key n.key)

-- the same holds of other places with the same contents at each key
pub places-same : (ps ps' : List Place) → ((k : ℕ) → place_at ps' k ≡ place_at ps k) → ArePlaces ps → ArePlaces ps'
places-same ps ps' same a = record { each = λ k. subst IsPlace (sym (same k)) (a.each k) }

-- Empty places at the end.

-- every place is empty
empty_places : {F : Type 0} (step : F → Place → F → Type 0) → ((f : F) (x : Place) (g : F) → step f x g → x ≡ Free) → (ys : List Place) (f g : F)
    → FoldsTo step f ys g
    → ((k : ℕ) → entries_from k ys ≡ []) × ((k : ℕ) → place_at ys k ≡ Free)
empty_places step none [] f g folds = (λ k. refl, λ k. refl)
empty_places step none (y ∷ ys) f g folds =
    let rest = empty_places step none ys folds.0 g folds.2 in
    let here = none f y folds.0 folds.1 in
    (λ k. ap (λ z. entries_from k (z ∷ ys)) here ∙ rest.0 (k + 1), at here rest.1)
  where
    at : y ≡ Free → ((k : ℕ) → place_at ys k ≡ Free) → (k : ℕ) → place_at (y ∷ ys) k ≡ Free
    at here later zero = here
    at here later (suc k) = later k

-- empty places after others add nothing
entries-more : (ps ys : List Place) → ((k : ℕ) → entries_from k ys ≡ []) → (k : ℕ) → entries_from k (ps ++ ys) ≡ entries_from k ps
entries-more [] ys none k = none k
entries-more (p ∷ ps) ys none k = ap (entered k (stands p)) (entries-more ps ys none (k + 1))

-- empty places are added at the end: the old ones stay
module _ {F : Type 0} (step : F → Place → F → Type 0) (none : (f : F) (x : Place) (g : F) → step f x g → x ≡ Free) (ps qs : List Place) (n : ℕ)
    (long : length ps ≤ n) (f : F) (more : AppendsResults step (take n ps) qs f) where
  grown : qs ≡ ps ++ more.0
  grown = more.2 ∙ ap (λ xs. xs ++ more.0) (take_all n ps long)

  empty : ((k : ℕ) → entries_from k more.0 ≡ []) × ((k : ℕ) → place_at more.0 k ≡ Free)
  empty = empty_places step none more.0 f more.1 more.3

  pub grown-entries : entries_in qs ≡ entries_in ps
  grown-entries = ap entries_in grown ∙ entries-more ps more.0 empty.0 0

  pub grown-place : (k : ℕ) → place_at qs k ≡ place_at ps k
  grown-place k = ap (λ xs. place_at xs k) grown ∙ ⊎_elim
      (λ lt. get_or_append_left ps more.0 Free k lt)
      (λ le. get_or-append_right ps more.0 (length ps) k Free refl le ∙ (empty.1 (k - length ps) ∙ sym (get_or_past ps k Free le))) (cases_lt k (length ps))
