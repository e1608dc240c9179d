-- Searches upwards, and effective modes in a changed graph. For `effective` and for the crates above.
use Rattle.gl_model.proofs.Words.{◌&&◌, ◌+◌, ◌==◌, [], ◌||◌, ◌∙◌, ◌∷◌, ◌≡◌, all_at, among, and_both, ap, ap₂, arith, AtBlock, Bool, climb_ends, climb_meets}
use Rattle.gl_model.proofs.Words.{climb_more, eff_s, eff_x, effective, empty_state, false, first_more, Graph, if◌then◌else◌, is_live, is_read, is_record_shape}
use Rattle.gl_model.proofs.Words.{is_some, IsClimb, IsLawful, IsLawfulGraph, IsRoute, item_among, keys_in, Leads, length, List, list_all, list_any, Mode}
use Rattle.gl_model.proofs.Words.{nat_tests, never, never_stops, next_of, no, no_parents, Node, node_at, node_count, NodeId, None, not, Option, or-true}
use Rattle.gl_model.proofs.Words.{or_elim, parents_in, parents_of, refl, same_mode, same_node, SameBelow, shape_in, shape_of, slice_get, Some, split, State}
use Rattle.gl_model.proofs.Words.{subst, suc, sym, take, true, true≢false, with_all, X, zero, ℕ}
use Rattle.gl_model.specs.declared.answers.Effect.TheVariants as effect
use Rattle.gl_model.proofs.law.Effects.{all_from, cut_set_on, eff_s_route, eff_x_any, eff_x_route, is_x, on_path, read_on_eff, read_on_route, ReadOn}

-- A search upwards, without climbing past some nodes, finds a sought node exactly if a route leads to one.

module _ (g : Graph) (stops sought : NodeId → Bool) where
  -- the search so far, which ends at the first sought node: of the first i nodes found none is sought
  pub record IsSearch (from : NodeId) (found : List NodeId) (i : ℕ) : Type 0 where
    pub climb : IsClimb g stops from found i
    pub unsought : (q : NodeId) → among q (take i found) ≡ true → stops q ≡ false → sought q ≡ false

  -- the next one found is done with: it is not sought, and its parents are found, or it stops the search
  search_more : (from : NodeId) (found next : List NodeId) (i : ℕ) (n : NodeId) → slice_get found i ≡ Some n → IsSearch from found i
      → (stops n ≡ false → sought n ≡ false) → next ≡ with_all found (next_of g stops n) → IsSearch from next (i + 1)
  search_more from found next i n item s not_it e = record {
    climb = climb_more g stops from found next i n item s.climb e;
    unsought = λ q h. first_more found (next_of g stops n) i n q item (sym (ap (λ xs. among q (take (i + 1) xs)) e) ∙ h) (s.unsought q)
        (λ is. subst (λ x. stops x ≡ false → sought x ≡ false) (sym is) not_it);
  }

  -- past the next one found, which stops the search
  pub search_past : (from : NodeId) (found : List NodeId) (i : ℕ) (n : NodeId) → slice_get found i ≡ Some n → IsSearch from found i → stops n ≡ true
      → IsSearch from found (i + 1)
  search_past from found i n item s stop =
      search_more from found found i n item s (λ on. absurd (no (sym on ∙ stop))) (ap (λ b. with_all found (if b then [] else parents_of g n)) (sym stop))

  -- from the next one found, which is not sought, to its parents
  pub search_up : (from : NodeId) (found next : List NodeId) (i : ℕ) (n : NodeId) → slice_get found i ≡ Some n → IsSearch from found i → stops n ≡ false
      → sought n ≡ false → next ≡ with_all found (parents_of g n) → IsSearch from next (i + 1)
  search_up from found next i n item s on not_it e =
      search_more from found next i n item s (λ _. not_it) (e ∙ ap (λ b. with_all found (if b then [] else parents_of g n)) (sym on))

  -- one that is sought is met
  pub search_meets : (from : NodeId) (found : List NodeId) (i : ℕ) (n : NodeId) → slice_get found i ≡ Some n → IsSearch from found i → stops n ≡ false
      → sought n ≡ true → Leads g stops sought from
  search_meets from found i n item s on it = climb_meets g stops sought from found i n (item_among found i n item) s.climb on it

  -- none is missed, if nothing is left to look at
  pub search_ends : (from : NodeId) (found : List NodeId) (i : ℕ) → slice_get found i ≡ None → IsSearch from found i → Leads g stops sought from → ⊥
  search_ends from found i none s l =
      let end = climb_ends g stops from found i none s.climb from l.end l.walk s.climb.starts l.route l.free in
      no (sym (s.unsought l.end end.0 end.1) ∙ l.meets)

-- the search for a node held in S, SIX or X stops nowhere

abbrev pub is_read_at : (NodeId → Mode) → NodeId → Bool
is_read_at h n = is_read (h n)

-- if it finds none there is no effective S over any number of steps
pub unread : (g : Graph) (h : NodeId → Mode) (k : ℕ) (n : NodeId) → (Leads g never (is_read_at h) n → ⊥) → eff_s k g h n ≡ false
unread g h k n none =
    split (eff_s k g h n) (λ e. let r = eff_s_route g h k n e in
    absurd (none (record { end = r.0; walk = r.1; route = r.2; free = never_stops (n ∷ r.1); meets = r.3 }))) (λ e. e)

-- if it finds one there is effective S: a route has fewer steps than there are nodes
pub read_from : (g : Graph) → IsLawfulGraph g → (h : NodeId → Mode) (n : NodeId) → is_live g n ≡ true → Leads g never (is_read_at h) n
    → eff_s (node_count g) g h n ≡ true
read_from g law h n live l = read_on_eff g law h n live (l.end, l.walk, l.route, l.meets)

-- the search for a node without parents stops at each node held in X

abbrev pub is_top : Graph → NodeId → Bool
is_top g n = no_parents (parents_of g n)

-- the test of the code is the test of the model
pub no_parents_length : (ps : List NodeId) → (length ps == 0) ≡ no_parents ps
no_parents_length [] = refl
no_parents_length (p ∷ ps) = grind (arith, nat_tests)

no_parents_is : (ps : List NodeId) → no_parents ps ≡ true → ps ≡ []
no_parents_is [] h = refl
no_parents_is (p ∷ ps) h = absurd (no h)

-- if it finds one there is no effective X over any number of steps
pub free_from : (g : Graph) (h : NodeId → Mode) (k : ℕ) (n : NodeId) → Leads g (is_x g h) (is_top g) n → eff_x k g h n ≡ false
free_from g h k n l = split (eff_x k g h n) (λ e. absurd (no (sym l.free ∙ on_path g h k n l.end l.walk e l.route (no_parents_is _ l.meets)))) (λ e. e)

-- if it finds none each root path has a node held in X
pub cut_off : (g : Graph) → IsLawfulGraph g → (h : NodeId → Mode) (n : NodeId) → is_live g n ≡ true → (Leads g (is_x g h) (is_top g) n → ⊥)
    → eff_x (node_count g) g h n ≡ true
cut_off g law h n live none =
    (cut_set_on (record (empty_state AtBlock 0) { graph = g; held = λ _. h }) law 0 n live).1 (λ walk path. split (list_any (is_x g h) (n ∷ walk)) (λ e. e)
    (λ e. absurd (none (record { end = path.0; walk = walk; route = path.1; free = e; meets = ap no_parents path.2.1 }))))

-- A graph that changes only at nodes on which a holder has no effective S: its effective modes and what is below stay.

-- the graph changes at the nodes of a set; h has no effective S there, if the node lived before or is a record after
pub record GraphStep (g g' : Graph) (h : NodeId → Mode) (changed : NodeId → Bool) : Type 0 where
  pub same : (c : NodeId) → changed c ≡ false → node_at g' c ≡ node_at g c
  pub before : (c : NodeId) → changed c ≡ true → ReadOn g h c → ⊥
  pub after : (c : NodeId) → changed c ≡ true → is_live g c ≡ true → ReadOn g' h c → ⊥
  pub after_record : (c : NodeId) → changed c ≡ true → is_record_shape (shape_of g' c) ≡ true → ReadOn g' h c → ⊥

record_lives : (o : Option Node) → is_record_shape (shape_in o) ≡ true → is_some o ≡ true
record_lives None h = absurd (true≢false (sym h))
record_lives (Some n) h = refl

module _ (g g' : Graph) (h : NodeId → Mode) (changed : NodeId → Bool) (step : GraphStep g g' h changed) (parents_live : (n p : NodeId)
    → list_any (same_node p) (parents_of g n) ≡ true → is_live g p ≡ true) where
  same_parents : (n : NodeId) → changed n ≡ false → parents_of g' n ≡ parents_of g n
  same_parents n e = ap parents_in (step.same n e)

  -- a route to a node under no changed one
  carry : (n m : NodeId) (walk : List NodeId) → IsRoute g n walk m → ((c : NodeId) (pre : List NodeId) → changed c ≡ true → IsRoute g c pre m → ⊥)
      → IsRoute g' n walk m
  carry n m [] route never = route
  carry n m (p ∷ walk) route never =
      split (changed n) (λ e. absurd (never n (p ∷ walk) e route))
      (λ e. (ap (list_any (same_node p)) (same_parents n e) ∙ route.0, carry p m walk route.1 never))

  back : (n m : NodeId) (walk : List NodeId) → is_live g n ≡ true → IsRoute g' n walk m
      → ((c : NodeId) (pre : List NodeId) → changed c ≡ true → is_live g c ≡ true → IsRoute g' c pre m → ⊥) → IsRoute g n walk m
  back n m [] live route never = route
  back n m (p ∷ walk) live route never =
      split (changed n) (λ e. absurd (never n (p ∷ walk) e live route))
      (λ e. let up : list_any (same_node p) (parents_of g n) ≡ true = ap (list_any (same_node p)) (sym (same_parents n e)) ∙ route.0 in
      (up, back p m walk (parents_live n p up) route.1 never))

  -- a route to what is read cannot pass a changed node, since the node would be read
  pub reads_carry : (n : NodeId) → ReadOn g h n → ReadOn g' h n
  reads_carry n r = (r.0, r.1, carry n r.0 r.1 r.2 (λ c pre e route. step.before c e (r.0, pre, route, r.3)), r.3)

  -- nor after the change
  pub reads_back : (n : NodeId) → is_live g n ≡ true → ReadOn g' h n → ReadOn g h n
  reads_back n live r = (r.0, r.1, back n r.0 r.1 live r.2 (λ c pre e on route. step.after c e on (r.0, pre, route, r.3)), r.3)

  -- an effective X below is an effective S, so the node is not a changed one
  pub x_carry : (k : ℕ) (n : NodeId) → eff_x k g h n ≡ true → eff_x k g' h n ≡ true
  x_carry zero n x = x
  x_carry (suc k) n x =
      split (changed n) (λ e. absurd (step.before n e (eff_x_route g h (suc k) n x)))
      (λ e. or_elim _ _ x (λ here. ap (λ b. b || (not (no_parents (parents_of g' n)) && list_all (eff_x k g' h) (parents_of g' n))) here)
      (λ up. let both = and_both _ _ up in
      ap (λ b. same_mode (h n) X || b) (ap₂ (λ a b. a && b) (ap (λ ps. not (no_parents ps)) (same_parents n e) ∙ both.0)
      (ap (list_all (eff_x k g' h)) (same_parents n e) ∙ all_from (eff_x k g' h) (parents_of g n)
      (λ p on. x_carry k p (all_at (eff_x k g h) (parents_of g n) p on both.1)))) ∙ or-true _))

  -- the same, back
  pub x_back : (k : ℕ) (n : NodeId) → is_live g n ≡ true → eff_x k g' h n ≡ true → eff_x k g h n ≡ true
  x_back zero n live x = x
  x_back (suc k) n live x =
      split (changed n) (λ e. absurd (step.after n e live (eff_x_route g' h (suc k) n x)))
      (λ e. or_elim _ _ x (λ here. ap (λ b. b || (not (no_parents (parents_of g n)) && list_all (eff_x k g h) (parents_of g n))) here)
      (λ up. let both = and_both _ _ up in
      let all : list_all (eff_x k g' h) (parents_of g n) ≡ true = ap (list_all (eff_x k g' h)) (sym (same_parents n e)) ∙ both.1 in
      ap (λ b. same_mode (h n) X || b) (ap₂ (λ a b. a && b) (ap (λ ps. not (no_parents ps)) (sym (same_parents n e)) ∙ both.0)
      (all_from (eff_x k g h) (parents_of g n) (λ p on. x_back k p (parents_live n p on) (all_at (eff_x k g' h) (parents_of g n) p on all)))) ∙ or-true _))

  -- what is below a node that is read is read, so it did not change
  pub below_same : (n : NodeId) → ReadOn g h n → SameBelow g g' n
  below_same n r = record {
    kept = λ c below.
        let under : ReadOn g h c = read_on_route g h c n below.route.0 below.route.1 r in
        let e : node_at g' c ≡ node_at g c = split (changed c) (λ e. absurd (step.before c e under)) (λ e. step.same c e) in (
          record {
            is_record = ap (λ o. is_record_shape (shape_in o)) e ∙ below.is_record;
            route = (below.route.0, carry c n below.route.0 below.route.1 (λ d pre e' route. step.before d e' (read_on_route g h d n pre route r)));
          },
          ap (λ o. keys_in (shape_in o)) e,
        );
    no_more = λ c below.
        let r' = reads_carry n r in
        let under : ReadOn g' h c = read_on_route g' h c n below.route.0 below.route.1 r' in
        let e : node_at g' c ≡ node_at g c = split (changed c) (λ e. absurd (step.after_record c e below.is_record under)) (λ e. step.same c e) in
        let is : is_record_shape (shape_of g c) ≡ true = ap (λ o. is_record_shape (shape_in o)) (sym e) ∙ below.is_record in
        record {
          is_record = is;
          route = (
            below.route.0,
            back c n below.route.0 (record_lives (node_at g c) is) below.route.1
                (λ d pre e' live route. step.after d e' live (read_on_route g' h d n pre route r')),
          );
        };
  }

pub same_bool : (a b : Bool) → (a ≡ true → b ≡ true) → (b ≡ true → a ≡ true) → b ≡ a
same_bool a b h1 h2 = grind (arith, nat_tests)

-- a holder's effective modes if its grants stay and the graph makes such a step
pub effective_same : (s s' : State) (t : ℕ) (changed : NodeId → Bool) → IsLawful s → IsLawful s' → GraphStep s.graph s'.graph (s.held t) changed
    → s'.held t ≡ s.held t → (n : NodeId) → is_live s.graph n ≡ true → is_live s'.graph n ≡ true → effective s' t n ≡ effective s t n
effective_same s s' t changed law law' step keeps n live live' =
    let h' : ℕ → NodeId → Mode = s'.held in
    let xs : eff_x (node_count s'.graph) s'.graph (s'.held t) n ≡ eff_x (node_count s.graph) s.graph (s.held t) n =
    same_bool _ _ (λ x. eff_x_any s' law' t (node_count s.graph) n live' (ap (λ h. eff_x (node_count s.graph) s'.graph h n) keeps
    ∙ x_carry s.graph s'.graph (s.held t) changed step law.graph.parents_live (node_count s.graph) n x)) (λ x. eff_x_any s law t (node_count s'.graph) n live
    (x_back s.graph s'.graph (s.held t) changed step law.graph.parents_live (node_count s'.graph) n live
    (ap (λ h. eff_x (node_count s'.graph) s'.graph h n) (sym keeps) ∙ x))) in
    let ss : eff_s (node_count s'.graph) s'.graph (s'.held t) n ≡ eff_s (node_count s.graph) s.graph (s.held t) n =
    same_bool _ _ (λ x. ap (λ h. eff_s (node_count s'.graph) s'.graph h n) keeps ∙ read_on_eff s'.graph law'.graph (s.held t) n live'
    (reads_carry s.graph s'.graph (s.held t) changed step law.graph.parents_live n (eff_s_route s.graph (s.held t) (node_count s.graph) n x)))
    (λ x. read_on_eff s.graph law.graph (s.held t) n live (reads_back s.graph s'.graph (s.held t) changed step law.graph.parents_live n live
    (eff_s_route s'.graph (s.held t) (node_count s'.graph) n (ap (λ h. eff_s (node_count s'.graph) s'.graph h n) (sym keeps) ∙ x)))) in
    ap₂ (λ x y. if x then effect.X else (if y then effect.S else effect.None)) xs ss
