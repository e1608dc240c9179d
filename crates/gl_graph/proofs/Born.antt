-- Nodes are born: the old ones stay as they were, and the law of the graph is kept.
use Rattle.gl_graph.proofs.Words.{[], ap, arith, born_node, born_nodes, cases_of, false, filter_map, filter_map-append, fun_ext, Graph, id_of, if◌then◌else◌}
use Rattle.gl_graph.proofs.Words.{indexes_of, inl, inr, is_child, is_index_of_shape, is_live, is_record_shape, is_some, IsFreeKey, IsLawfulGraph, IsWellFormed}
use Rattle.gl_graph.proofs.Words.{length, List, list_any, no, Node, node_at, node_count, node_is, NodeId, None, none_some, number_other, number_same, Option}
use Rattle.gl_graph.proofs.Words.{parents_in, range_with_len, refl, rules, same_node, same_number, shape_in, shape_of, Some, split, subst, suc, sym, true}
use Rattle.gl_graph.proofs.Words.{with_key, with_node, zero, ℕ, ◌==◌, ⊎_elim, ◌++◌, ◌+◌, ◌-◌, ◌<◌, ◌^◌, ◌∙◌, ◌∷◌, ◌≡◌, ◌≢◌, ◌≤◌, ◌⊎◌}
use Rattle.gl_graph.proofs.Look.{found_at, finds, live_node, there_is, child_node}
use Rattle.gl_graph.proofs.KindRules.{Frames, PlainFrames, well_formed_kept, plain_live, one_shape}
use Rattle.gl_graph.proofs.Listings.{kept, index_born, indexes_are, range_append, map_same}
use Rattle.gl_graph.proofs.Routes.{acyclic_beside}

-- the node at this place of those that are born
abbrev pub place_in : List Node → ℕ → Option Node
place_in [] k = None
place_in (n ∷ ns) zero = Some n
place_in (n ∷ ns) (suc k) = place_in ns k

pub place_below : (ns : List Node) (k : ℕ) (node : Node) → place_in ns k ≡ Some node → k < length ns
place_below [] k node e = absurd (none_some e)
place_below (n ∷ ns) zero node e = omega arith
place_below (n ∷ ns) (suc k) node e = let low = place_below ns k node e in omega arith

pub births_are : (g : Graph) (ns : List Node) → (born_nodes g ns).births ≡ g.births + length ns
births_are g [] = omega arith
births_are g (n ∷ ns) = let rest = births_are (born_node g n) ns in omega arith

-- the limit of nodes stays
pub most_is : (g : Graph) (ns : List Node) → (born_nodes g ns).most ≡ g.most
most_is g [] = refl
most_is g (n ∷ ns) = most_is (born_node g n) ns

pub most_bounds_is : (g : Graph) (ns : List Node) → (born_nodes g ns).most_bounds ≡ g.most_bounds
most_bounds_is g [] = refl
most_bounds_is g (n ∷ ns) = most_bounds_is (born_node g n) ns

pub old_at : (g : Graph) (ns : List Node) (b : ℕ) → b ≤ g.births → (born_nodes g ns).at b ≡ g.at b
old_at g [] b low = refl
old_at g (n ∷ ns) b low = old_at (born_node g n) ns b (omega arith)
    ∙ ap (λ x. if x then Some n else g.at b) (let ne : b ≢ g.births + 1 = omega arith in number_other b (g.births + 1) ne)

pub new_at : (g : Graph) (ns : List Node) (k b : ℕ) → ((c : ℕ) → g.births < c → g.at c ≡ None) → b ≡ g.births + 1 + k → (born_nodes g ns).at b ≡ place_in ns k
new_at g [] k b none e = none b (omega arith)
new_at g (n ∷ ns) zero b none e = grind (arith, old_at, number_same)
new_at g (n ∷ ns) (suc k) b none e =
    new_at (born_node g n) ns k b (λ c low. let ne : c ≢ g.births + 1 = omega arith in
    ap (λ x. if x then Some n else g.at c) (number_other c (g.births + 1) ne) ∙ none c (omega arith)) (omega arith)

-- the first of the nodes that are born is written
pub first_written : (g : Graph) (was is : Node) (ns : List Node) → with_node (born_nodes g (was ∷ ns)) (g.births + 1) is ≡ born_nodes g (is ∷ ns)
first_written g was is ns = later (born_node g was) ns (omega arith) ∙ ap (λ (g' : Graph). born_nodes g' ns) again
  where
    again : with_node (born_node g was) (g.births + 1) is ≡ born_node g is
    again = let same : (with_node (born_node g was) (g.births + 1) is).at ≡ (born_node g is).at = fun_ext (λ b. grind arith) in
        λ i. record { at = same i; births = g.births + 1; most = g.most; most_bounds = g.most_bounds }

    before : (g' : Graph) (n : Node) → g.births + 1 ≤ g'.births
        → with_node (born_node g' n) (g.births + 1) is ≡ born_node (with_node g' (g.births + 1) is) n
    before g' n low =
        let ne : g.births + 1 ≢ g'.births + 1 = omega arith in
        let same : (with_node (born_node g' n) (g.births + 1) is).at ≡ (born_node (with_node g' (g.births + 1) is) n).at =
        fun_ext (λ b. split (b == g.births + 1) (λ t. grind (arith, same_number, number_other)) (λ t. grind arith)) in
        λ i. record { at = same i; births = g'.births + 1; most = g'.most; most_bounds = g'.most_bounds }

    later : (g' : Graph) (ns' : List Node) → g.births + 1 ≤ g'.births
        → with_node (born_nodes g' ns') (g.births + 1) is ≡ born_nodes (with_node g' (g.births + 1) is) ns'
    later g' [] low = refl
    later g' (n ∷ ns') low = later (born_node g' n) ns' (omega arith) ∙ ap (λ (g'' : Graph). born_nodes g'' ns') (before g' n low)

module _ (g : Graph) (law : IsLawfulGraph g) (ns : List Node) where
  abbrev pub grown : Graph
  grown = born_nodes g ns

  pub none_above : (c : ℕ) → g.births < c → g.at c ≡ None
  none_above c low = cases_of (g.at c) (λ e. e) (λ x e. let b = law.born c (there_is (g.at c) x e) in absurd (omega arith))

  pub old_below : (q : NodeId) → is_live g q ≡ true → q.birth ≤ g.births
  old_below q h = let n = live_node (node_at g q) h in (law.born q.birth (there_is (g.at q.birth) n.0 (found_at g q n.0 n.1).0)).1

  pub old_same : (q : NodeId) → is_live g q ≡ true → node_at grown q ≡ node_at g q
  old_same q h = ap (with_key q.key) (old_at g ns q.birth (old_below q h))

  abbrev pub new_id : Node → ℕ → NodeId
  new_id node k = record { key = node.key; birth = g.births + 1 + k }

  pub new_node : (k : ℕ) (node : Node) → place_in ns k ≡ Some node → node_at grown (new_id node k) ≡ Some node
  new_node k node e = finds node.key (grown.at (g.births + 1 + k)) node (new_at g ns k (g.births + 1 + k) none_above refl ∙ e) refl

  -- a node is an old one, or one of those that were born
  pub old_or_new : {C : Type 0} (q : NodeId) (node : Node) → node_at grown q ≡ Some node → (node_at g q ≡ Some node → C)
      → ((k : ℕ) → place_in ns k ≡ Some node → q ≡ new_id node k → C) → C
  old_or_new q node e was is =
      let at = found_at grown q node e in
      ⊎_elim (λ (low : q.birth ≤ g.births). was (finds q.key (g.at q.birth) node (sym (old_at g ns q.birth low) ∙ at.0) at.1))
      (λ (high : g.births < q.birth).
      let birth : q.birth ≡ g.births + 1 + (q.birth - (g.births + 1)) = omega arith in
      is (q.birth - (g.births + 1)) (sym (new_at g ns (q.birth - (g.births + 1)) q.birth none_above birth) ∙ at.0)
      (node_is q (new_id node (q.birth - (g.births + 1))) (sym at.1) birth))
      (below q.birth g.births)
    where
      below : (a b : ℕ) → (a ≤ b) ⊎ (b < a)
      below a b = search rules

  pub new_not_old : (k : ℕ) (node : Node) → is_live g (new_id node k) ≡ true → ⊥
  new_not_old k node h = let low = old_below (new_id node k) h in absurd (omega arith)

  old_index : (f : NodeId) (b : ℕ) → b ≤ g.births → index_born grown f b ≡ index_born g f b
  old_index f b low = ap (λ o. kept (λ q. is_index_of_shape f (shape_of grown q)) (id_of b o)) (old_at g ns b low) ∙ by (g.at b)
    where
      by : (o : Option Node) → kept (λ q. is_index_of_shape f (shape_of grown q)) (id_of b o) ≡ kept (λ q. is_index_of_shape f (shape_of g q)) (id_of b o)
      by None = refl
      by (Some x) =
          let id : NodeId = record { key = x.key; birth = b } in
          ap (λ o. if is_index_of_shape f (shape_in o) then Some id else None) (ap (with_key x.key) (old_at g ns b low))

  pub parts : (h : ℕ → Option NodeId) → filter_map h (range_with_len 1 grown.births) ≡ filter_map h (range_with_len 1 g.births)
      ++ filter_map h (range_with_len (g.births + 1) (length ns))
  parts h = let births = births_are g ns in
      ap (filter_map h) (range_append 1 g.births (length ns) grown.births (g.births + 1) (omega arith) (omega arith))
      ∙ filter_map-append h (range_with_len 1 g.births) (range_with_len (g.births + 1) (length ns))

  -- the indexes that are born
  abbrev pub new_indexes : NodeId → List NodeId
  new_indexes f = filter_map (index_born grown f) (range_with_len (g.births + 1) (length ns))

  pub indexes_grown : (f : NodeId) → indexes_of grown f ≡ indexes_of g f ++ new_indexes f
  indexes_grown f =
      indexes_are grown f ∙ parts (index_born grown f)
      ∙ ap (λ xs. xs ++ new_indexes f) (map_same (index_born g f) (index_born grown f) 1 g.births (λ b low high. old_index f b (omega arith))
      ∙ sym (indexes_are g f))

  abbrev pub IsFresh : NodeId → Type 0
  IsFresh p = (is_live g p ≡ true) ⊎ ((is_live grown p ≡ true) × ((q : NodeId) → is_child grown q p ≡ true → is_live g q ≡ true))

  pub born_plain : PlainFrames g grown
  born_plain = record {
    shapes = λ q plain. one_shape (shape_of grown q) (shape_of g q) (ap shape_in (old_same q (plain_live g q plain)));
    intervals = λ q node e interval. old_same q (ap is_some e) ∙ e;
    bounds = most_bounds_is g ns;
  }

  module _ (free : (k : ℕ) (node : Node) → place_in ns k ≡ Some node → IsFreeKey g node.key)
      (differ : (j k : ℕ) (a b : Node) → place_in ns j ≡ Some a → place_in ns k ≡ Some b → a.key ≡ b.key → j ≡ k) where
    pub born_apart : (a b : NodeId) → is_live grown a ≡ true → is_live grown b ≡ true → a.key ≡ b.key → a ≡ b
    born_apart a b h k e =
        let x = live_node (node_at grown a) h in
        let y = live_node (node_at grown b) k in
        old_or_new a x.0 x.1
        (λ was_a. old_or_new b y.0 y.1 (λ was_b. law.keys_differ a b (ap is_some was_a) (ap is_some was_b) e)
        (λ j at same. absurd (free j y.0 at a (ap is_some was_a) (e ∙ ap (λ q. q.key) same))))
        (λ i at_a same_a. old_or_new b y.0 y.1 (λ was_b. absurd (free i x.0 at_a b (ap is_some was_b) (sym e ∙ ap (λ q. q.key) same_a)))
        (λ j at_b same_b.
        let keys : x.0.key ≡ y.0.key = sym (ap (λ q. q.key) same_a) ∙ e ∙ ap (λ q. q.key) same_b in
        let place : i ≡ j = differ i j x.0 y.0 at_a at_b keys in
        same_a ∙ (λ l. record { key = keys l; birth = g.births + 1 + place l }) ∙ sym same_b))

  pub born_counted : (b : ℕ) → is_some (grown.at b) ≡ true → (1 ≤ b) × (b ≤ grown.births)
  born_counted b h =
      let x = live_node (grown.at b) h in
      let id : NodeId = record { key = x.0.key; birth = b } in
      let births = births_are g ns in
      old_or_new id x.0 (finds x.0.key (grown.at b) x.0 x.1 refl)
      (λ was. let old = law.born b (there_is (g.at b) x.0 (found_at g id x.0 was).0) in (old.0, omega arith))
      (λ k at same. let low = place_below ns k x.0 at in let birth : b ≡ g.births + 1 + k = ap (λ q. q.birth) same in (omega arith, omega arith))

  module _ (indexes : (f r : NodeId) → is_record_shape (shape_of g r) ≡ true → is_child g f r ≡ true → indexes_of grown f ≡ indexes_of g f) where
    pub born_frames : Frames g grown
    born_frames = grind (arith, one_shape, old_same, plain_live, most_bounds_is)

    module _ (well : (k : ℕ) (node : Node) → place_in ns k ≡ Some node → IsWellFormed grown (new_id node k) node)
        (up : (k : ℕ) (node : Node) (p : NodeId) → place_in ns k ≡ Some node → list_any (same_node p) node.parents ≡ true → IsFresh p)
        (free : (k : ℕ) (node : Node) → place_in ns k ≡ Some node → IsFreeKey g node.key)
        (differ : (j k : ℕ) (a b : Node) → place_in ns j ≡ Some a → place_in ns k ≡ Some b → a.key ≡ b.key → j ≡ k)
        (seven : (f : NodeId) → length (indexes_of grown f) ≤ 7) (room : node_count grown ≤ g.most) where
      old_child : (p n : NodeId) → is_live g n ≡ true → is_child grown p n ≡ true → is_child g p n ≡ true
      old_child p n h k = sym (ap (λ o. list_any (same_node p) (parents_in o)) (old_same n h)) ∙ k

      live_later : (p : NodeId) → is_live g p ≡ true → is_live grown p ≡ true
      live_later p h = ap is_some (old_same p h) ∙ h

      new_child : (p n : NodeId) → is_live g n ≡ false → is_child grown p n ≡ true → IsFresh p
      new_child p n h k =
          let c = child_node grown n p k in
          old_or_new n c.0 c.1 (λ e. absurd (no (sym h ∙ ap is_some e))) (λ j e same. up j c.0 p e c.2)

      pub born_lawful : IsLawfulGraph grown
      born_lawful = record {
        well_formed = λ q node e. old_or_new q node e (λ was. well_formed_kept g grown law born_frames q node was)
            (λ k at same. subst (λ x. IsWellFormed grown x node) (sym same) (well k node at));
        parents_live = λ n p h. split (is_live g n) (λ old. live_later p (law.parents_live n p (old_child p n old h)))
            (λ new. ⊎_elim (live_later p)
            (λ (both : (is_live grown p ≡ true) × ((q : NodeId) → is_child grown q p ≡ true → is_live g q ≡ true)). both.0) (new_child p n new h));
        acyclic = acyclic_beside g grown (λ p n h. law.parents_live n p h) old_child
            (λ p n h k. ⊎_elim inl (λ (both : (is_live grown p ≡ true)
            × ((q : NodeId) → is_child grown q p ≡ true → is_live g q ≡ true)). inr both.1) (new_child p n h k)) law.acyclic;
        keys_differ = born_apart free differ;
        born = born_counted;
        seven_indexes = seven;
        limit = subst (λ m. m ≤ 2 ^ 31) (sym (most_is g ns)) law.limit;
        room = let same : grown.most ≡ g.most = most_is g ns in omega arith;
      }
