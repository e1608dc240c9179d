-- A new index with its intervals: the law of the graph is kept.
use Rattle.gl_graph.proofs.Words.{[], ap, are_apart, are_distinct, AreInnerParents, arith, born_index, born_node, born_nodes, both, cons_option, false, Graph}
use Rattle.gl_graph.proofs.Words.{HasShape, ids_of, if◌then◌else◌, indexes_of, inl, Interval, interval_nodes, intervals_in, is_child, is_file_shape}
use Rattle.gl_graph.proofs.Words.{is_index_of_shape, is_index_shape, is_inner_shape, is_live, is_record_shape, IsFreeKey, IsLawfulGraph, IsRising, IsWellFormed}
use Rattle.gl_graph.proofs.Words.{keys_of, length, length-append, List, list_any, new_index, no, Node, node_at, node_count, node_is, NodeId, nodes, None}
use Rattle.gl_graph.proofs.Words.{none_some, or_elim, or_left, or_right, refl, same_node, same_node-equal, same_node-from_equal, same_node-refl, shape_in}
use Rattle.gl_graph.proofs.Words.{shape_of, Some, some_is, split, subst, suc, sym, true, zero, ℕ, ◌&&◌, ◌++◌, ◌+◌, ◌<◌, ◌==◌, ◌∙◌, ◌∷◌, ◌≡◌, ◌≤◌}
use Rattle.gl_graph.proofs.Tally.{list_born, list_borns}
use Rattle.gl_graph.proofs.Look.{all_at}
use Rattle.gl_graph.proofs.KindRules.{Frames, inner_plain, file_plain, plain_live, parents_same}
use Rattle.gl_graph.proofs.Moved.{some_at}
use Rattle.gl_graph.proofs.RouteLengths.{listed}
use Rattle.gl_graph.proofs.Born.{place_in, new_id, new_node, born_frames, born_lawful, born_plain, IsFresh}
use Rattle.gl_graph.proofs.Counts.{count_grown, count_ids}
use Rattle.gl_graph.proofs.Grow.{count_intervals}
use Rattle.gl_graph.proofs.Removed.{rec_live}
use Rattle.gl_graph.proofs.NewNodes.{key_listed, places_apart}

pub keys_of_intervals : (id : NodeId) (keys : List ℕ) → keys_of (interval_nodes id keys) ≡ keys
keys_of_intervals id [] = refl
keys_of_intervals id (k ∷ ks) = ap (λ xs. k ∷ xs) (keys_of_intervals id ks)

-- the nodes are intervals
pub interval_node : (id : NodeId) (keys : List ℕ) (k : ℕ) (node : Node) → place_in (interval_nodes id keys) k ≡ Some node
    → node ≡ record { key = node.key; shape = Interval; parents = id ∷ [] }
interval_node id [] k node f = absurd (none_some f)
interval_node id (key ∷ keys) zero node f = grind arith
interval_node id (key ∷ keys) (suc k) node f = interval_node id keys k node f

-- each has its id, and each id its node
id_listed : (id : NodeId) (birth : ℕ) (keys : List ℕ) (k b : ℕ) (node : Node) → birth + k ≡ b → place_in (interval_nodes id keys) k ≡ Some node
    → list_any (same_node (record { key = node.key; birth = b })) (ids_of birth keys) ≡ true
id_listed id birth [] k b node e f = absurd (none_some f)
id_listed id birth (key ∷ keys) zero b node e f =
    or_left _ _ (same_node-from_equal _ _ (node_is (record { key = node.key; birth = b }) (record { key = key; birth = birth })
    (ap (λ x. x.key) (sym (some_is f))) (omega arith)))
id_listed id birth (key ∷ keys) (suc k) b node e f = or_right _ _ (id_listed id (birth + 1) keys k b node (omega arith) f)

id_there : (id : NodeId) (birth : ℕ) (keys : List ℕ) (i : NodeId) → list_any (same_node i) (ids_of birth keys) ≡ true
    → (k : ℕ) × (place_in (interval_nodes id keys) k ≡ Some (record { key = i.key; shape = Interval; parents = id ∷ [] })) × (birth + k ≡ i.birth)
id_there id birth [] i h = absurd (no h)
id_there id birth (key ∷ keys) i h =
    or_elim (same_node i (record { key = key; birth = birth })) (list_any (same_node i) (ids_of (birth + 1) keys)) h (λ here.
    let same = sym (same_node-equal i (record { key = key; birth = birth }) here) in
    let births = ap (λ (q : NodeId). q.birth) same in
    (0, ap (λ (q : NodeId). Some (record { key = q.key; shape = Interval; parents = id ∷ [] })) same, omega arith))
    (λ there. let rest = id_there id (birth + 1) keys i there in let births = rest.2 in (suc rest.0, rest.1, omega arith))

not_before : (q : NodeId) (birth : ℕ) (keys : List ℕ) → q.birth < birth → list_any (same_node q) (ids_of birth keys) ≡ false
not_before q birth [] low = refl
not_before q birth (key ∷ keys) low = grind (arith, not_before q (birth + 1) keys (omega arith))

ids_distinct : (birth : ℕ) (keys : List ℕ) → are_distinct (ids_of birth keys) ≡ true
ids_distinct birth [] = refl
ids_distinct birth (key ∷ keys) = grind (arith, ids_distinct (birth + 1) keys, both, not_before)

module _ (g : Graph) (law : IsLawfulGraph g) (key : ℕ) (ps : List NodeId) (file : NodeId) (bounds keys : List ℕ) where
  abbrev pub id : NodeId
  id = record { key = key; birth = g.births + 1 }

  abbrev pub index : Node
  index = new_index id ps file bounds keys

  abbrev pub ns : List Node
  ns = index ∷ interval_nodes id keys

  abbrev pub grown : Graph
  grown = born_nodes g ns

  pub index_there : node_at grown id ≡ Some index
  index_there =
      let birth : g.births + 1 ≡ g.births + 1 + 0 = omega arith in
      ap (λ b. node_at grown (record { key = key; birth = b })) birth ∙ new_node g law ns 0 index refl

  pub no_interval_index : (f : NodeId) (k : ℕ) (node : Node) → place_in (interval_nodes id keys) k ≡ Some node → is_index_of_shape f (Some node.shape) ≡ false
  no_interval_index f k node e = ap (λ x. is_index_of_shape f (Some x.shape)) (interval_node id keys k node e)

  -- other files keep their indexes
  pub others : (f : NodeId) → same_node f file ≡ false → indexes_of grown f ≡ indexes_of g f
  others f other = list_borns (λ n o. is_index_of_shape f (shape_in o)) g ns (λ k node e n. by k node e)
    where
      by : (k : ℕ) (node : Node) → place_in ns k ≡ Some node → is_index_of_shape f (Some node.shape) ≡ false
      by zero node e = ap (λ x. is_index_of_shape f (Some x.shape)) (sym (some_is e)) ∙ other
      by (suc k) node e = no_interval_index f k node e

  -- the file has the index, last
  pub file_index : indexes_of grown file ≡ indexes_of g file ++ id ∷ []
  file_index =
      list_borns (λ n o. is_index_of_shape file (shape_in o)) (born_node g index) (interval_nodes id keys) (λ k node e n. no_interval_index file k node e)
      ∙ list_born (λ n o. is_index_of_shape file (shape_in o)) g index
      ∙ ap (λ b. indexes_of g file ++ cons_option (if b then Some id else None) []) (same_node-refl file)

  pub keys_are : keys_of ns ≡ key ∷ keys
  keys_are = ap (λ xs. key ∷ xs) (keys_of_intervals id keys)

  pub free_born : ((k : ℕ) → list_any (λ x. x == k) (key ∷ keys) ≡ true → IsFreeKey g k) → (k : ℕ) (node : Node) → place_in ns k ≡ Some node
      → IsFreeKey g node.key
  free_born free k node e = free node.key (ap (list_any (λ x. x == node.key)) (sym keys_are) ∙ key_listed ns k node e)

  pub no_record_born : (k : ℕ) (node : Node) → place_in ns k ≡ Some node → is_record_shape (Some node.shape) ≡ false
  no_record_born zero node e = ap (λ x. is_record_shape (Some x.shape)) (sym (some_is e))
  no_record_born (suc k) node e = ap (λ x. is_record_shape (Some x.shape)) (interval_node id keys k node e)

  module _ (inner : AreInnerParents g 1 ps) (is_file : is_file_shape (shape_of g file) ≡ true) (few : length bounds ≤ g.most_bounds)
      (rising : IsRising (0 ∷ bounds)) (each : length keys ≡ length bounds + 1) where
    intervals_there : (i : NodeId) → list_any (same_node i) (ids_of (g.births + 1 + 1) keys) ≡ true
        → node_at grown i ≡ Some (record { key = i.key; shape = Interval; parents = id ∷ [] })
    intervals_there i listed =
        let it = id_there id (g.births + 1 + 1) keys i listed in
        let node : Node = record { key = i.key; shape = Interval; parents = id ∷ [] } in
        let birth = it.2 in
        ap (node_at grown) (node_is i (new_id g law ns node (suc it.0)) refl (omega arith)) ∙ new_node g law ns (suc it.0) node it.1

    index_well : HasShape grown id index.shape ps
    index_well = (
      parents_same g grown (born_plain g law ns) 1 ps inner,
      record {
        file = ((born_plain g law ns).shapes file (file_plain _ is_file)).file ∙ is_file;
        few = subst (λ m. length bounds ≤ m) (sym (born_plain g law ns).bounds) few;
        rising = rising;
        count = ap (λ ks. length (ids_of (g.births + 1 + 1) ks)) (sym (keys_of_intervals id keys))
            ∙ count_ids (g.births + 1 + 1) (interval_nodes id keys) ∙ count_intervals id keys ∙ each;
        distinct = ids_distinct (g.births + 1 + 1) keys;
        intervals = intervals_there;
      },
    )

    pub well_born : (k : ℕ) (node : Node) → place_in ns k ≡ Some node → IsWellFormed grown (new_id g law ns node k) node
    well_born zero node e =
        let birth : g.births + 1 ≡ g.births + 1 + 0 = omega arith in
        subst (λ y. IsWellFormed grown (new_id g law ns y 0) y) (some_is e)
        (subst (λ b. HasShape grown (record { key = key; birth = b }) index.shape ps) birth index_well)
    well_born (suc k) node e =
        subst (λ (y : Node). HasShape grown (new_id g law ns node (suc k)) y.shape y.parents) (sym (interval_node id keys k node e)) (
          id,
          refl,
          ap (λ o. is_index_shape (shape_in o)) index_there,
          ap (λ o. list_any (same_node (new_id g law ns node (suc k))) (intervals_in (shape_in o))) index_there
              ∙ id_listed id (g.births + 1 + 1) keys k (g.births + 1 + suc k) node (omega arith) e,
        )

  module _ (inner : AreInnerParents g 1 ps) (is_file : is_file_shape (shape_of g file) ≡ true) (few : length bounds ≤ g.most_bounds)
      (rising : IsRising (0 ∷ bounds)) (no_records : list_any (λ r. is_record_shape (shape_of g r) && is_child g file r) (nodes g) ≡ false)
      (room_for : length (indexes_of g file) + 1 ≤ 7) (each : length keys ≡ length bounds + 1) (apart : are_apart (key ∷ keys) ≡ true)
      (free : (k : ℕ) → list_any (λ x. x == k) (key ∷ keys) ≡ true → IsFreeKey g k) (room : node_count g + (2 + length bounds) ≤ g.most) where
    unused : (f r : NodeId) → is_record_shape (shape_of g r) ≡ true → is_child g f r ≡ true → indexes_of grown f ≡ indexes_of g f
    unused f r rec child =
        others f (split (same_node f file) (λ e. absurd (no (sym no_records
        ∙ some_at (λ q. is_record_shape (shape_of g q) && is_child g file q) (nodes g) r (listed g law r (rec_live g law r rec))
        (both _ _ rec (subst (λ x. is_child g x r ≡ true) (same_node-equal f file e) child))))) (λ e. e))

    pub frames : Frames g grown
    frames = born_frames g law ns unused

    inner_live : (p : NodeId) → list_any (same_node p) ps ≡ true → is_live g p ≡ true
    inner_live p h = plain_live g p (inner_plain _ (all_at (λ q. is_inner_shape (shape_of g q)) ps p h inner.inner))

    up : (k : ℕ) (node : Node) (p : NodeId) → place_in ns k ≡ Some node → list_any (same_node p) node.parents ≡ true → IsFresh g law ns p
    up zero node p e h = inl (inner_live p (ap (λ (y : Node). list_any (same_node p) y.parents) (some_is e) ∙ h))
    up (suc k) node p e h =
        let is = interval_node id keys k node e in
        or_elim (same_node p id) false (ap (λ (y : Node). list_any (same_node p) y.parents) (sym is) ∙ h)
        (λ here. grind (arith, index_there, inner_live)) (λ none. absurd (no none))

    pub index_lawful : IsLawfulGraph (born_index g key ps file bounds keys)
    index_lawful =
        born_lawful g law ns unused (well_born inner is_file few rising each) up (free_born free)
        (places_apart ns (ap are_apart keys_are ∙ apart))
        (λ f. grind (arith, file_index, length-append, others)) (let all = count_grown g law ns in
        let many = count_intervals id keys in omega arith)
