-- The search for the nodes that a path passes: it finds those to which a way leads, and no other.
use Rattle.std.specs.Prelude.{◌≡◌, ◌↔◌, ℕ, ◌+◌, ◌<◌, ◌≤◌, length, map, drop, get_or, ◌||◌, not, Bool, true, false, List, [], ◌∷◌, ◌++◌, Option, Some, None}
use Rattle.std.specs.Prelude.{slice_get, take}
use Rattle.std.specs.List.{list_all, list_any}
use Rattle.std.proofs.Common.{refl, sym, ap, subst, take_all, ◌∙◌, ⊎_elim, inl, inr}
use Rattle.std.proofs.lemmas.List.{drop_all, drop_more}
use Rattle.gl_modes.specs.declared.node.NodeId.{NodeId}
use Rattle.gl_modes.specs.Nodes.{same_node}
use Rattle.gl_modes.proofs.Words.{and_both, both, clash, no, not_true, or_elim, or_left, or_right, split}
use Rattle.gl_graph.specs.Graph.{Graph}
use Rattle.gl_graph.specs.Seen.{with_all}
use Rattle.gl_graph.proofs.Climb.{among, first_more, item_among, none_left, with_all-adds, with_all-from, with_all-keeps}
use Rattle.gl_model.specs.State.{State}
use Rattle.gl_catalog.specs.Paths.{intention}
use Rattle.gl_parts.specs.declared.passing.Mark.{Mark}
use Rattle.gl_parts.specs.declared.passing.Target.{Target}
use Rattle.gl_parts.specs.Passing.{IsFirst, IsWay, Lacks, LeadFrom, Passes, asked_above, is_held_at, is_unheld_at}

-- among all that are added are those that were there and the others
pub with_all_among : (q : NodeId) (xs ys : List NodeId) → list_any (same_node q) (with_all xs ys) ≡ (list_any (same_node q) xs || list_any (same_node q) ys)
with_all_among q xs ys =
    split (among q (with_all xs ys))
    (λ e. e ∙ sym (⊎_elim (λ (was : among q xs ≡ true). or_left (among q xs) (among q ys) was)
    (λ (new : among q ys ≡ true). or_right (among q xs) (among q ys) new) (with_all-from q xs ys e)))
    (λ e. e ∙ sym (not_true _ (λ h. clash (or_elim (among q xs) (among q ys) h (with_all-keeps q xs ys) (with_all-adds q xs ys)) e)))

module _ (writes : Bool) (g : Graph) (from : List NodeId) where
  -- the search so far: where ways begin is found, to what is found a way leads, and the first i found nodes were searched
  pub record Passing (found : List NodeId) (i : ℕ) : Type 0 where
    pub begins : (q : NodeId) → among q from ≡ true → among q found ≡ true
    pub leads : (q : NodeId) → among q found ≡ true → LeadFrom writes g from q
    pub climbed : (q p : NodeId) → among q (take i found) ≡ true → among p (asked_above writes g q) ≡ true → among p found ≡ true

  -- a way with one step more
  longer : (n m p : NodeId) (way : List NodeId) → IsWay writes g n way m → among p (asked_above writes g m) ≡ true → IsWay writes g n (way ++ p ∷ []) p
  longer n m p [] h a = (ap (λ x. among p (asked_above writes g x)) h ∙ a, refl)
  longer n m p (q ∷ way) h a = (h.0, longer q m p way h.1 a)

  leads_up : (q p : NodeId) → LeadFrom writes g from q → among p (asked_above writes g q) ≡ true → LeadFrom writes g from p
  leads_up q p l a = record { start = l.start; is_one = l.is_one; leads = (l.leads.0 ++ p ∷ [], longer l.start q p l.leads.0 l.leads.1 a) }

  -- before the first is searched
  pub passing_starts : (found : List NodeId) → ((q : NodeId) → among q found ≡ among q from) → Passing found 0
  passing_starts found same = record {
    begins = λ q h. same q ∙ h;
    leads = λ q h. record { start = q; is_one = sym (same q) ∙ h; leads = ([], refl) };
    climbed = λ q p h a. cc;
  }

  -- the next one found is searched
  pub passing_more : (found next : List NodeId) (i : ℕ) (n : NodeId) → slice_get found i ≡ Some n → Passing found i
      → next ≡ with_all found (asked_above writes g n) → Passing next (i + 1)
  passing_more found next i n item s e =
      subst (λ xs. Passing xs (i + 1)) (sym e) (record {
        begins = λ q h. with_all-keeps q found (asked_above writes g n) (s.begins q h);
        leads = λ q h. ⊎_elim (λ (was : among q found ≡ true). s.leads q was)
            (λ (new : among q (asked_above writes g n) ≡ true). leads_up n q (s.leads n (item_among found i n item)) new)
            (with_all-from q found (asked_above writes g n) h);
        climbed = λ q p h k.
            first_more found (asked_above writes g n) i n q item h (λ was. with_all-keeps p found (asked_above writes g n) (s.climbed q p was k))
            (λ is. with_all-adds p found (asked_above writes g n) (ap (λ x. among p (asked_above writes g x)) (sym is) ∙ k));
      })

  -- if none is left to search, all to which ways lead are found
  pub passing_ends : (found : List NodeId) (i : ℕ) → slice_get found i ≡ None → Passing found i → (n : NodeId)
      → (among n found ≡ true → LeadFrom writes g from n) × (LeadFrom writes g from n → among n found ≡ true)
  passing_ends found i none s n = (s.leads n, λ l. reached l.start l.leads.0 (s.begins l.start l.is_one) l.leads.1)
    where
      reached : (q : NodeId) (way : List NodeId) → among q found ≡ true → IsWay writes g q way n → among n found ≡ true
      reached q [] h w = ap (λ x. among x found) (sym w) ∙ h
      reached q (p ∷ way) h w =
          reached p way (s.climbed q p (ap (among q) (take_all i found (none_left found i none)) ∙ h) w.0) w.1

-- who holds the intention on the nodes of all marks lacks none
pub held_lack_none : (main : Option State) (part : State) (t : ℕ) (x : Target) (marks : List Mark)
    → list_all (is_held_at main part t (intention x.mode)) marks ≡ true → IsFirst (Lacks main part t x) marks None
held_lack_none main part t x [] h = refl
held_lack_none main part t x (mark ∷ marks) h =
    let it = and_both (is_held_at main part t (intention x.mode) mark) _ h in
    inr ((λ lack. clash it.0 lack.unheld), held_lack_none main part t x marks it.1)

-- the names of the marks that are left, with those of the next one
next_names : {A : Type 0} (names : A → Mark) (xs : List A) (i : ℕ) (x : A) → i < length xs → x ≡ get_or xs i x
    → map names (drop i xs) ≡ names x ∷ map names (drop (i + 1) xs)
next_names names xs i x low is = ap (map names) (drop_more xs i x low ∙ ap (λ y. y ∷ drop (i + 1) xs) (sym is))

module _ {A : Type 0} (names : A → Mark) (is_it : Mark → Bool) (xs : List A) (i : ℕ) (next : A) (low : i < length xs) (is : next ≡ get_or xs i next) where
  -- the next mark is the first that is so
  pub next_first : is_it (names next) ≡ true → IsFirst (λ mark. is_it mark ≡ true) (map names (drop i xs)) (Some (names next))
  next_first e = subst (λ ms. IsFirst (λ mark. is_it mark ≡ true) ms (Some (names next))) (sym (next_names names xs i next low is)) (inl (e, refl))

  -- it is not, and the first of those after it is the first of those that are left
  pub later_first : is_it (names next) ≡ false → (first : Option Mark) → IsFirst (λ mark. is_it mark ≡ true) (map names (drop (i + 1) xs)) first
      → IsFirst (λ mark. is_it mark ≡ true) (map names (drop i xs)) first
  later_first e first h =
      subst (λ ms. IsFirst (λ mark. is_it mark ≡ true) ms first) (sym (next_names names xs i next low is)) (inr ((λ t. clash t e), h))

-- no mark is left
pub none_first : {A : Type 0} (names : A → Mark) (is_it : Mark → Bool) (xs : List A) (i : ℕ) → length xs ≤ i
    → IsFirst (λ mark. is_it mark ≡ true) (map names (drop i xs)) None
none_first names is_it xs i high = subst (λ ys. IsFirst (λ mark. is_it mark ≡ true) (map names ys) None) (sym (drop_all i xs high)) refl

not_false_of : (b : Bool) → not b ≡ true → b ≡ false
not_false_of true h = absurd (no h)
not_false_of false h = refl

-- the first that is passed and not held is the first that is lacked
pub first_lacked : (main : Option State) (part : State) (t : ℕ) (x : Target) (passed : List NodeId)
    → ((n : NodeId) → (list_any (same_node n) passed ≡ true) ↔ Passes part.graph x n) → (marks : List Mark) (found : Option Mark)
    → IsFirst (λ mark. is_unheld_at main part t (intention x.mode) passed mark ≡ true) marks found → IsFirst (Lacks main part t x) marks found
first_lacked main part t x passed is [] found h = h
first_lacked main part t x passed is (mark ∷ marks) found (inl here) =
    let it = and_both (list_any (same_node mark.in_part) passed) _ here.0 in
    inl (record { passes = (is mark.in_part).0 it.0; unheld = not_false_of _ it.1 }, here.1)
first_lacked main part t x passed is (mark ∷ marks) found (inr later) =
    inr ((λ lack. later.0 (both _ _ ((is mark.in_part).1 lack.passes) (ap not lack.unheld))), first_lacked main part t x passed is marks found later.1)
