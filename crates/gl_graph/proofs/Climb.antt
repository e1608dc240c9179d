-- A search up the graph that stops at some nodes finds exactly the nodes to which a route leads.
use Rattle.gl_graph.proofs.Words.{[], ap, arith, Bool, Bor, cases_lt, false, get_or_from_slice_get, Graph, if◌then◌else◌, inl, is_at_or_below, is_live}
use Rattle.gl_graph.proofs.Words.{IsItemAt, IsLawfulGraph, IsRoute, length, length-append, List, list_any, list_any-append, list_any_at, list_any_more, no}
use Rattle.gl_graph.proofs.Words.{node_count, NodeId, None, none_some, Option, option_copied, or_elim, or_left, or_right, parents_of, refl, same_node}
use Rattle.gl_graph.proofs.Words.{same_node-equal, same_node-refl, slice_get, slice_get-get_or, slice_get_within, Some, split, subst, sym, take, take-append-le}
use Rattle.gl_graph.proofs.Words.{take_all, true, with_all, ℕ, ⊎_elim, ◌++◌, ◌+◌, ◌<◌, ◌||◌, ◌∙◌, ◌∷◌, ◌≡◌, ◌≤◌, ◌⊎◌}
use Rattle.gl_graph.proofs.Moved.{below_complete, below_route}
use Rattle.gl_graph.proofs.Beside.{item_copied}
use Rattle.gl_graph.proofs.Unrefused.{or_no}

abbrev pub among : NodeId → List NodeId → Bool
among q xs = list_any (same_node q) xs

-- one is added if it is missing
abbrev added : List NodeId → NodeId → List NodeId
added xs y = if among y xs then xs else xs ++ y ∷ []

added_case : {C : Type 0} (xs : List NodeId) (y : NodeId) → (among y xs ≡ true → added xs y ≡ xs → C) → (added xs y ≡ xs ++ y ∷ [] → C) → C
added_case xs y f g = split (among y xs) (λ e. f e (ap (λ b. if b then xs else xs ++ y ∷ []) e)) (λ e. g (ap (λ b. if b then xs else xs ++ y ∷ []) e))

added_keeps : (q : NodeId) (xs : List NodeId) (y : NodeId) → among q xs ≡ true → among q (added xs y) ≡ true
added_keeps q xs y h = added_case xs y (λ e same. ap (among q) same ∙ h) (λ same. ap (among q) same ∙ list_any-append (same_node q) xs (y ∷ []) ∙ or_left _ _ h)

added_comes : (xs : List NodeId) (y : NodeId) → among y (added xs y) ≡ true
added_comes xs y = grind (arith, added_case, list_any-append, or_right, or_left, same_node-refl)

added_from : (q : NodeId) (xs : List NodeId) (y : NodeId) → among q (added xs y) ≡ true → (among q xs ≡ true) ⊎ (q ≡ y)
added_from q xs y h = grind (arith, added_case, or_elim, list_any-append, same_node-equal, no)

-- what is there stays
pub with_all-keeps : (q : NodeId) (xs ys : List NodeId) → among q xs ≡ true → among q (with_all xs ys) ≡ true
with_all-keeps q xs [] h = h
with_all-keeps q xs (y ∷ ys) h = with_all-keeps q (added xs y) ys (added_keeps q xs y h)

-- each one is added
pub with_all-adds : (q : NodeId) (xs ys : List NodeId) → among q ys ≡ true → among q (with_all xs ys) ≡ true
with_all-adds q xs [] h = absurd (no h)
with_all-adds q xs (y ∷ ys) h =
    or_elim (same_node q y) (among q ys) h
    (λ here. with_all-keeps q (added xs y) ys (ap (λ z. among z (added xs y)) (same_node-equal q y here) ∙ added_comes xs y))
    (λ there. with_all-adds q (added xs y) ys there)

-- and nothing else
pub with_all-from : (q : NodeId) (xs ys : List NodeId) → among q (with_all xs ys) ≡ true → (among q xs ≡ true) ⊎ (among q ys ≡ true)
with_all-from q xs [] h = inl h
with_all-from q xs (y ∷ ys) h = grind (arith, with_all-from q (added xs y) ys, or_left, same_node-refl, added_from, or_right)

added_longer : (xs : List NodeId) (y : NodeId) → length xs ≤ length (added xs y)
added_longer xs y = grind (arith, added_case, length-append)

pub with_all-front : (xs ys : List NodeId) (i : ℕ) → i ≤ length xs → take i (with_all xs ys) ≡ take i xs
with_all-front xs [] i h = refl
with_all-front xs (y ∷ ys) i h = grind (arith, with_all-front (added xs y) ys i, added_longer, added_case, take-append-le)

pub none_left : (xs : List NodeId) (i : ℕ) → slice_get xs i ≡ None → length xs ≤ i
none_left xs i e = ⊎_elim (λ (low : i < length xs). by low xs refl) (λ (high : length xs ≤ i). high) (cases_lt i (length xs))
  where
    by : i < length xs → (ys : List NodeId) → xs ≡ ys → length xs ≤ i
    by low [] f = let l = ap length f in absurd (omega arith)
    by low (y ∷ ys) f = absurd (none_some (sym e ∙ slice_get-get_or xs i y low))

-- what is lent at a place of a slice of the nodes found
pub lent_at : (found xs : List NodeId) (i : ℕ) (r : Option (Bor NodeId)) → xs ≡ found → IsItemAt xs i r → slice_get found i ≡ option_copied r
lent_at found xs i r e at = sym (item_copied xs i r at ∙ ap (λ ys. slice_get ys i) e)

pub item_among : (found : List NodeId) (i : ℕ) (n : NodeId) → slice_get found i ≡ Some n → among n found ≡ true
item_among found i n item = list_any_at (same_node n) found i n (slice_get_within found i n item)
    (ap (same_node n) (get_or_from_slice_get found i n n item) ∙ same_node-refl n)

-- among the first i + 1, whatever is added after them, are the first i and the next one
pub first_more : {C : Type 0} (found more : List NodeId) (i : ℕ) (n q : NodeId) → slice_get found i ≡ Some n
    → among q (take (i + 1) (with_all found more)) ≡ true → (among q (take i found) ≡ true → C) → (q ≡ n → C) → C
first_more found more i n q item h was is =
    let low = slice_get_within found i n item in
    let at = get_or_from_slice_get found i n n item in
    or_elim (among q (take i found)) (same_node q n)
    (sym (ap (among q) (with_all-front found more (i + 1) (omega arith)) ∙ list_any_more (same_node q) found i n low
    ∙ ap (λ x. among q (take i found) || same_node q x) at) ∙ h)
    was (λ same. is (same_node-equal q n same))

module _ (g : Graph) (stops : NodeId → Bool) where
  -- a route from n to a wanted node, past no node that stops it
  pub record Leads (sought : NodeId → Bool) (n : NodeId) : Type 0 where
    pub end : NodeId
    pub walk : List NodeId
    pub route : IsRoute g n walk end
    pub free : list_any stops (n ∷ walk) ≡ false
    pub meets : sought end ≡ true

  -- the nodes to which the search climbs from n
  abbrev pub next_of : NodeId → List NodeId
  next_of n = if stops n then [] else parents_of g n

  -- the search so far: from a found node a wanted one is reached only if it is from the first, and the first i found nodes were searched
  pub record IsClimb (from : NodeId) (found : List NodeId) (i : ℕ) : Type 0 where
    pub starts : among from found ≡ true
    pub leads : (sought : NodeId → Bool) (q : NodeId) → among q found ≡ true → Leads sought q → Leads sought from
    pub climbed : (q p : NodeId) → among q (take i found) ≡ true → among p (next_of q) ≡ true → among p found ≡ true

  -- what is reached from a node to which the search climbs from n is reached from n
  leads_up : (sought : NodeId → Bool) (n q : NodeId) → among q (next_of n) ≡ true → Leads sought q → Leads sought n
  leads_up sought n q h l =
      split (stops n) (λ s. absurd (no (sym (ap (λ b. among q (if b then [] else parents_of g n)) s) ∙ h)))
      (λ s. record {
        end = l.end;
        walk = q ∷ l.walk;
        route = (sym (ap (λ b. among q (if b then [] else parents_of g n)) s) ∙ h, l.route);
        free = ap (λ b. b || list_any stops (q ∷ l.walk)) s ∙ l.free;
        meets = l.meets;
      })

  -- the search climbs from the next one found
  pub climb_more : (from : NodeId) (found next : List NodeId) (i : ℕ) (n : NodeId) → slice_get found i ≡ Some n → IsClimb from found i
      → next ≡ with_all found (next_of n) → IsClimb from next (i + 1)
  climb_more from found next i n item s e =
      subst (λ xs. IsClimb from xs (i + 1)) (sym e) (record {
        starts = with_all-keeps from found (next_of n) s.starts;
        leads = λ sought q h l. ⊎_elim (λ (was : among q found ≡ true). s.leads sought q was l)
            (λ (new : among q (next_of n) ≡ true). s.leads sought n (item_among found i n item) (leads_up sought n q new l))
            (with_all-from q found (next_of n) h);
        climbed = λ q p h k.
            first_more found (next_of n) i n q item h (λ was. with_all-keeps p found (next_of n) (s.climbed q p was k))
            (λ is. with_all-adds p found (next_of n) (ap (λ x. among p (next_of x)) (sym is) ∙ k));
      })

  -- the next node found, which does not stop the search, is met if it is wanted
  pub climb_meets : (sought : NodeId → Bool) (from : NodeId) (found : List NodeId) (i : ℕ) (n : NodeId) → among n found ≡ true → IsClimb from found i
      → stops n ≡ false → sought n ≡ true → Leads sought from
  climb_meets sought from found i n there s on it =
      s.leads sought n there (record { end = n; walk = []; route = refl; free = ap (λ b. b || false) on; meets = it })

  -- if nothing is left to search, each route that is not stopped ends at a found node
  pub climb_ends : (from : NodeId) (found : List NodeId) (i : ℕ) → slice_get found i ≡ None → IsClimb from found i
      → (q m : NodeId) (walk : List NodeId) → among q found ≡ true → IsRoute g q walk m → list_any stops (q ∷ walk) ≡ false
      → (among m (take i found) ≡ true) × (stops m ≡ false)
  climb_ends from found i none s q m [] h route free = grind (arith, take_all, none_left, or_no)
  climb_ends from found i none s q m (p ∷ walk) h route free =
      let free' = or_no _ _ free in
      climb_ends from found i none s p m walk
      (s.climbed q p (ap (among q) (take_all i found (none_left found i none)) ∙ h)
      (ap (λ b. among p (if b then [] else parents_of g q)) free'.0 ∙ route.0)) route.1 free'.1

-- a search that stops nowhere

abbrev pub never : NodeId → Bool
never n = false

pub never_stops : (walk : List NodeId) → list_any never walk ≡ false
never_stops [] = refl
never_stops (n ∷ walk) = never_stops walk

-- if nothing is left to search, the test of the found nodes is the test of routes
pub finds_routes : (g : Graph) (law : IsLawfulGraph g) (from target : NodeId) (found : List NodeId) (i : ℕ) → is_live g from ≡ true
    → slice_get found i ≡ None → IsClimb g never from found i
    → among target found ≡ is_at_or_below (node_count g) g target from
finds_routes g law from target found i live none s =
    split (among target found)
    (λ e. e ∙ sym (let l = climb_meets g never (same_node target) from found i target e s refl (same_node-refl target) in
    below_complete g law target from l.walk live (subst (IsRoute g from l.walk) (sym (same_node-equal target l.end l.meets)) l.route)))
    (λ e. e ∙ sym (split (is_at_or_below (node_count g) g target from)
    (λ t. absurd (let walk = below_route g target (node_count g) from t in
    no (sym e ∙ ap (among target) (sym (take_all i found (none_left found i none)))
    ∙ (climb_ends g never from found i none s from target walk.0 s.starts walk.1 (never_stops (from ∷ walk.0))).0)))
    (λ t. t)))
