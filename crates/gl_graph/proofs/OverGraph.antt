-- An index is made over records: each node after it, and that the law of the graph is kept.
use Rattle.gl_graph.proofs.Words.{[], and_both, ap, ap₂, are_apart, AreInnerParents, arith, Bool}
use Rattle.gl_graph.proofs.Words.{born_nodes, bounds_in, cases_of, count_by, false, filter_map, first_in, first_parent}
use Rattle.gl_graph.proofs.Words.{fun_ext, Graph, HasShape, id_of, if◌then◌else◌, Index, indexes_of, Interval, interval_nodes, interval_of, interval_place}
use Rattle.gl_graph.proofs.Words.{intervals_in, intervals_of, is_child, is_file_shape}
use Rattle.gl_graph.proofs.Words.{is_index_of_shape, is_inner_shape, is_live, is_record_of, is_record_shape}
use Rattle.gl_graph.proofs.Words.{is_some, IsFreeKey, IsLawfulGraph, IsRising, IsWellFormed, keys_in, length, length-append, List, list_all, list_any, map}
use Rattle.gl_graph.proofs.Words.{new_index, no, no_node, Node, node_at, node_count, NodeId}
use Rattle.gl_graph.proofs.Words.{nodes, None, none_some, not_true, Option, or_elim, or_left, or_right}
use Rattle.gl_graph.proofs.Words.{is_rising, parents_in, range_with_len, Rec, record_count, record_parents, refl, same_node, same_node-equal, same_node-refl}
use Rattle.gl_graph.proofs.Words.{same_number, Shape, shape_in, shape_of, slice_index_or, Some, some_is, split}
use Rattle.gl_graph.proofs.Words.{subst, suc, sym, true, with_key, zero, ℕ, ◌&&◌, ◌++◌}
use Rattle.gl_graph.proofs.Words.{◌+◌, ◌<◌, ◌==◌, ◌^◌, ◌∙◌, ◌∷◌, ◌≡◌, ◌≤◌}
use Rattle.gl_graph.proofs.Words.{bad_bounds, bad_index_place, bad_parents, ids_of, inl, inr, max_count, nat_le, nat_lt, node_is, not, parents_of, some_no_node}
use Rattle.gl_graph.proofs.Words.{too_many_nodes, where_true, worn_births, ◌-◌, ◌||◌, ◌⊎◌}
use Rattle.gl_modes.specs.declared.refusal.Refusal.TheVariants as refusal
use Rattle.gl_graph.specs.Laws.{IndexesKeepGraphs}
use Rattle.gl_graph.specs.Over.{are_keyed, IsIndexOver, key_for, keyed, keyed_node, keyed_shape, over_refusal}
use Rattle.gl_graph.proofs.Born.{births_are, born_apart, born_counted, most_is, most_bounds_is, new_id, old_below, old_or_new, old_same, place_in}
use Rattle.gl_graph.proofs.Counts.{count_grown}
use Rattle.gl_graph.proofs.Cover.{AreWithin, covers}
use Rattle.gl_graph.proofs.Dues.{record_test}
use Rattle.gl_graph.proofs.Grow.{count_intervals}
use Rattle.gl_graph.proofs.KindRules.{file_plain, interval_is, intervals_same, is_plain, one_shape, plain_live, PlainFrames, shape_same}
use Rattle.gl_graph.proofs.Look.{all_at, all_filter, child_live, found_at, live_node, one_birth, there_is}
use Rattle.gl_graph.proofs.NewIndex.{file_index, free_born, index_there, interval_node, keys_are, no_record_born, others, well_born}
use Rattle.gl_graph.proofs.NewNodes.{places_apart}
use Rattle.gl_graph.proofs.Ranks.{acyclic_by_kinds, rises}
use Rattle.gl_graph.proofs.RecordParents.{record_of_file}
use Rattle.gl_graph.proofs.Settled.{indexes_by}
use Rattle.gl_graph.proofs.Tally.{counted_births}
use Rattle.gl_graph.proofs.Unrefused.{enough_room, inner_parents, le_no, lt_no, not_false, not_refused, or_no, rising, test_fails}

key_found : (rs : List NodeId) (ks : List ℕ) (b k : ℕ) → key_for rs ks b ≡ Some k → (r : NodeId) × (list_any (same_node r) rs ≡ true) × (r.birth ≡ b)
key_found [] ks b k e = absurd (none_some e)
key_found (r ∷ rs) [] b k e = absurd (none_some e)
key_found (r ∷ rs) (x ∷ ks) b k e = split (r.birth == b)
    (λ here. (r, or_left (same_node r r) (list_any (same_node r) rs) (same_node-refl r), same_number r.birth b here))
    (λ other.
    let rest = key_found rs ks b k (sym (ap (λ z. if z then Some x else key_for rs ks b) other) ∙ e) in
    (rest.0, or_right (same_node rest.0 r) (list_any (same_node rest.0) rs) rest.1, rest.2))

key_there : (rs : List NodeId) (ks : List ℕ) (b : ℕ) → length ks ≡ length rs → list_any (λ c. c == b) (map (λ (r : NodeId). r.birth) rs) ≡ true
    → (k : ℕ) × (key_for rs ks b ≡ Some k)
key_there [] ks b many h = absurd (no h)
key_there (r ∷ rs) [] b many h = absurd (omega arith)
key_there (r ∷ rs) (x ∷ ks) b many h = split (r.birth == b)
    (λ here. (x, ap (λ z. if z then Some x else key_for rs ks b) here))
    (λ other.
    let rest = key_there rs ks b (omega arith) (or_elim (r.birth == b) (list_any (λ c. c == b) (map (λ (q : NodeId). q.birth) rs)) h
    (λ t. absurd (no (sym other ∙ t))) (λ t. t)) in
    (rest.0, ap (λ z. if z then Some x else key_for rs ks b) other ∙ rest.1))

-- a birth among those of these nodes is that of one of them
birth_of : (rs : List NodeId) (b : ℕ) → list_any (λ c. c == b) (map (λ (r : NodeId). r.birth) rs) ≡ true
    → (r : NodeId) × (list_any (same_node r) rs ≡ true) × (r.birth ≡ b)
birth_of [] b h = absurd (no h)
birth_of (r ∷ rs) b h = or_elim (r.birth == b) (list_any (λ c. c == b) (map (λ (q : NodeId). q.birth) rs)) h
    (λ here. (r, or_left (same_node r r) (list_any (same_node r) rs) (same_node-refl r), same_number r.birth b here))
    (λ there. let rest = birth_of rs b there in (rest.0, or_right (same_node rest.0 r) (list_any (same_node rest.0) rs) rest.1, rest.2))

births_many : (rs : List NodeId) → length (map (λ (r : NodeId). r.birth) rs) ≡ length rs
births_many [] = refl
births_many (r ∷ rs) = ap suc (births_many rs)

intervals_append : (h : Graph) (is : List NodeId) (keys : List ℕ) (i : NodeId) (k : ℕ) → length keys ≡ length is
    → intervals_of h (is ++ i ∷ []) (keys ++ k ∷ []) ≡ intervals_of h is keys ++ interval_of h i k ∷ []
intervals_append h [] [] i k many = refl
intervals_append h [] (x ∷ keys) i k many = absurd (omega arith)
intervals_append h (j ∷ is) [] i k many = absurd (omega arith)
intervals_append h (j ∷ is) (x ∷ keys) i k many = ap (λ ns. interval_of h j x ∷ ns) (intervals_append h is keys i k (omega arith))

-- what records have alike is seen alike before and after
alike : {A : Type 0} (see : Option Shape → A) → ((keys keys' : List ℕ) → see (Some (Rec keys)) ≡ see (Some (Rec keys'))) → (k : ℕ) (sh : Shape)
    → see (Some (keyed_shape k sh)) ≡ see (Some sh)
alike see recs k (Rec keys) = recs (keys ++ k ∷ []) keys
alike see recs k _ = refl

-- what the tests of names and keys leave
module _ (g : Graph) (file : NodeId) (rs : List NodeId) (ks : List ℕ) (all : are_keyed g file rs ks ≡ true) where
  pub tests : (list_all (is_record_of g file) rs ≡ true) × (is_rising (0 ∷ map (λ (r : NodeId). r.birth) rs) ≡ true)
      × ((length rs == record_count g file) ≡ true) × ((length ks == length rs) ≡ true)
  tests = let d = and_both _ _ all in let c = and_both _ _ d.0 in let b = and_both _ _ c.0 in (b.0, b.1, c.1, d.1)

  pub each_record : (r : NodeId) → list_any (same_node r) rs ≡ true → is_record_of g file r ≡ true
  each_record r h = all_at (is_record_of g file) rs r h tests.0

  pub rise : IsRising (0 ∷ map (λ (r : NodeId). r.birth) rs)
  rise = rising (0 ∷ map (λ (r : NodeId). r.birth) rs) tests.1

  pub many : length rs ≡ record_count g file
  many = same_number (length rs) (record_count g file) tests.2

  pub keys_many : length ks ≡ length rs
  keys_many = same_number (length ks) (length rs) tests.3

module _ (grown : Graph) (id : NodeId) (rs : List NodeId) (ks : List ℕ) where
  abbrev keyed_graph : Graph
  keyed_graph = keyed grown id rs ks

  pub node_after : (q : NodeId) → node_at keyed_graph q ≡ keyed_node grown id (key_for rs ks q.birth) (node_at grown q)
  node_after q = by (key_for rs ks q.birth) (grown.at q.birth)
    where
      pick : (b : Bool) (k : ℕ) (x : Node) → (if b then keyed_node grown id (Some k) (Some x) else None) ≡ keyed_node grown id (Some k)
          (if b then Some x else None)
      pick true k x = refl
      pick false k x = refl

      by : (o : Option ℕ) (n : Option Node) → with_key q.key (keyed_node grown id o n) ≡ keyed_node grown id o (with_key q.key n)
      by None n = refl
      by (Some k) None = refl
      by (Some k) (Some x) = pick (x.key == q.key) k x

  pub seen_after : {A : Type 0} (see : Option Shape → A) → ((keys keys' : List ℕ) → see (Some (Rec keys)) ≡ see (Some (Rec keys'))) → (q : NodeId)
      → see (shape_of keyed_graph q) ≡ see (shape_of grown q)
  seen_after see recs q = ap (λ o. see (shape_in o)) (node_after q) ∙ by (key_for rs ks q.birth) (node_at grown q)
    where
      by : (o : Option ℕ) (n : Option Node) → see (shape_in (keyed_node grown id o n)) ≡ see (shape_in n)
      by None n = refl
      by (Some k) None = refl
      by (Some k) (Some x) = alike see recs k x.shape

  pub live_after : (q : NodeId) → is_live keyed_graph q ≡ is_live grown q
  live_after q = ap is_some (node_after q) ∙ by (key_for rs ks q.birth) (node_at grown q)
    where
      by : (o : Option ℕ) (n : Option Node) → is_some (keyed_node grown id o n) ≡ is_some n
      by None n = refl
      by (Some k) None = refl
      by (Some k) (Some x) = refl

  pub some_after : (b : ℕ) → is_some (keyed_graph.at b) ≡ is_some (grown.at b)
  some_after b = by (key_for rs ks b) (grown.at b)
    where
      by : (o : Option ℕ) (n : Option Node) → is_some (keyed_node grown id o n) ≡ is_some n
      by None n = refl
      by (Some k) None = refl
      by (Some k) (Some x) = refl

  pub nodes_after : nodes keyed_graph ≡ nodes grown
  nodes_after = ap (λ (h : ℕ → Option NodeId). filter_map h (range_with_len 1 grown.births)) (fun_ext (λ b. by b (key_for rs ks b) (grown.at b)))
    where
      by : (b : ℕ) (o : Option ℕ) (n : Option Node) → id_of b (keyed_node grown id o n) ≡ id_of b n
      by b None n = refl
      by b (Some k) None = refl
      by b (Some k) (Some x) = refl

  pub indexes_after : (h : NodeId) → indexes_of keyed_graph h ≡ indexes_of grown h
  indexes_after h = indexes_by grown keyed_graph h nodes_after (seen_after (is_index_of_shape h) (λ keys keys'. refl))

  pub interval_after : (y : NodeId) (k : ℕ) → interval_of keyed_graph y k ≡ interval_of grown y k
  interval_after y k =
      ap₂ (λ is bs. slice_index_or is (interval_place bs k) no_node) (seen_after intervals_in (λ keys keys'. refl) y) (seen_after bounds_in
      (λ keys keys'. refl) y)

module _ (g : Graph) (law : IsLawfulGraph g) (key : ℕ) (ps : List NodeId) (file : NodeId) (bounds interval_keys : List ℕ) (rs : List NodeId) (ks : List ℕ) where
  abbrev pub id : NodeId
  id = record { key = key; birth = g.births + 1 }

  abbrev pub ns : List Node
  ns = new_index id ps file bounds interval_keys ∷ interval_nodes id interval_keys

  abbrev pub grown : Graph
  grown = born_nodes g ns

  abbrev pub after : Graph
  after = keyed grown id rs ks

  module _ (is_file : is_file_shape (shape_of g file) ≡ true) (all : are_keyed g file rs ks ≡ true) where
    record_live : (r : NodeId) → is_record_of g file r ≡ true → is_live g r ≡ true
    record_live r h = child_live g r file (and_both (is_record_shape (shape_of g r)) (is_child g file r) h).1

    -- no key is for a node that is no record of the file
    none_for : (q : NodeId) → is_live grown q ≡ true → is_record_of g file q ≡ false → key_for rs ks q.birth ≡ None
    none_for q live other = cases_of (key_for rs ks q.birth) (λ e. e) (λ k e.
        let r = key_found rs ks q.birth k e in
        let rec = each_record g file rs ks all r.0 r.1 in
        let old = record_live r.0 rec in
        let same : r.0 ≡ q = one_birth grown r.0 q (ap is_some (old_same g law ns r.0 old) ∙ old) live r.2 in
        absurd (no (sym other ∙ ap (is_record_of g file) (sym same) ∙ rec)))

    within : AreWithin (λ b. record_test file (g.at b)) 1 g.births (map (λ (r : NodeId). r.birth) rs)
    within c h =
        let r = birth_of rs c h in
        let rec = each_record g file rs ks all r.0 r.1 in
        let node = live_node (node_at g r.0) (record_live r.0 rec) in
        let at = (found_at g r.0 node.0 node.1).0 in
        let born = law.born r.0.birth (there_is (g.at r.0.birth) node.0 at) in
        let birth = r.2 in
        (omega arith, omega arith, ap (λ b. record_test file (g.at b)) (sym r.2) ∙ ap (record_test file) at ∙ ap (record_test file) (sym node.1) ∙ rec)

    -- each record of the file has one
    pub some_for : (q : NodeId) → is_record_of g file q ≡ true → (k : ℕ) × (key_for rs ks q.birth ≡ Some k)
    some_for q rec =
        let node = live_node (node_at g q) (record_live q rec) in
        let at = (found_at g q node.0 node.1).0 in
        let born = law.born q.birth (there_is (g.at q.birth) node.0 at) in
        let counted : length (map (λ (r : NodeId). r.birth) rs) ≡ count_by (λ b. record_test file (g.at b)) (range_with_len 1 g.births) =
        births_many rs ∙ many g file rs ks all ∙ counted_births (record_test file) refl g in
        key_there rs ks q.birth (keys_many g file rs ks all) (covers (λ b. record_test file (g.at b)) 1 g.births (map (λ (r : NodeId). r.birth) rs)
        (rise g file rs ks all).1 within counted
        q.birth born.0 (omega arith) (ap (record_test file) at ∙ ap (record_test file) (sym node.1) ∙ rec))

    -- a node that is no record of the file is as it was born
    pub other_after : (q : NodeId) → is_live grown q ≡ true → is_record_of g file q ≡ false → node_at after q ≡ node_at grown q
    other_after q live other = node_after grown id rs ks q ∙ ap (λ o. keyed_node grown id o (node_at grown q)) (none_for q live other)

    plain_other : (q : NodeId) → is_plain (shape_of g q) ≡ true → is_record_of g file q ≡ false
    plain_other q plain = by (shape_of g q) plain
      where
        by : (o : Option Shape) → is_plain o ≡ true → (is_record_shape o && is_child g file q) ≡ false
        by None h = absurd (no h)
        by (Some (Rec keys)) h = absurd (no h)
        by (Some _) h = refl

    old_live : (q : NodeId) → is_live g q ≡ true → is_live grown q ≡ true
    old_live q live = ap is_some (old_same g law ns q live) ∙ live

    pub old_after : (q : NodeId) → is_live g q ≡ true → is_record_of g file q ≡ false → node_at after q ≡ node_at g q
    old_after q live other = other_after q (old_live q live) other ∙ old_same g law ns q live

    frames : PlainFrames g after
    frames = record {
      shapes = λ q plain. one_shape (shape_of after q) (shape_of g q) (ap shape_in (old_after q (plain_live g q plain) (plain_other q plain)));
      intervals = λ q node e interval. old_after q (ap is_some e) (plain_other q (ap (λ o. is_plain (shape_in o)) e ∙ ap (λ sh. is_plain
          (Some sh)) interval)) ∙ e;
      bounds = most_bounds_is g ns;
    }

    -- each kind but that of records is seen alike
    grown_frames : PlainFrames grown after
    grown_frames = record {
      shapes = λ q plain. record {
        inner = seen_after grown id rs ks is_inner_shape (λ keys keys'. refl) q;
        file = seen_after grown id rs ks is_file_shape (λ keys keys'. refl) q;
        index = seen_after grown id rs ks Rattle.gl_graph.specs.Shapes.is_index_shape (λ keys keys'. refl) q;
        bounds = seen_after grown id rs ks bounds_in (λ keys keys'. refl) q;
        intervals = seen_after grown id rs ks intervals_in (λ keys keys'. refl) q;
      };
      intervals = λ q node e interval. interval_stays q node e interval (key_for rs ks q.birth) refl;
      bounds = refl;
    }
      where
        interval_stays : (q : NodeId) (node : Node) → node_at grown q ≡ Some node → node.shape ≡ Interval → (o : Option ℕ) → key_for rs ks q.birth ≡ o
            → node_at after q ≡ Some node
        interval_stays q node e interval None none = node_after grown id rs ks q ∙ ap (λ o. keyed_node grown id o (node_at grown q)) none ∙ e
        interval_stays q node e interval (Some k) there =
            let r = key_found rs ks q.birth k there in
            let rec = each_record g file rs ks all r.0 r.1 in
            let old = record_live r.0 rec in
            let same : r.0 ≡ q = one_birth grown r.0 q (old_live r.0 old) (ap is_some e) r.2 in
            let shape : shape_of g r.0 ≡ Some Interval = ap shape_in (sym (old_same g law ns r.0 old) ∙ ap (node_at grown) same ∙ e) ∙ ap Some interval in
            absurd (no (ap is_record_shape (sym shape) ∙ (and_both (is_record_shape (shape_of g r.0)) (is_child g file r.0) rec).0))

    pub indexes_now : (h : NodeId) → same_node h file ≡ false → indexes_of after h ≡ indexes_of g h
    indexes_now h other = indexes_after grown id rs ks h ∙ others g law key ps file bounds interval_keys h other

    pub file_indexes : indexes_of after file ≡ indexes_of g file ++ id ∷ []
    file_indexes = indexes_after grown id rs ks file ∙ file_index g law key ps file bounds interval_keys

    -- a record of the file, before and after
    module _ (q : NodeId) (rec : is_record_of g file q ≡ true) where
      pub record_after : node_at after q ≡ keyed_node grown id (Some (some_for q rec).0) (node_at g q)
      record_after = node_after grown id rs ks q ∙ ap₂ (keyed_node grown id) (some_for q rec).1 (old_same g law ns q (record_live q rec))

      record_well : (node : Node) → node_at after q ≡ Some node → HasShape after q node.shape node.parents
      record_well node e =
          let was = live_node (node_at g q) (record_live q rec) in
          let k = (some_for q rec).0 in
          subst (λ (y : Node). HasShape after q y.shape y.parents)
          (some_is (ap (keyed_node grown id (Some k)) (sym was.1) ∙ sym record_after ∙ e))
          (by was.0 was.0.shape refl (law.well_formed q was.0 was.1) was.1)
        where
          by : (w : Node) (sh : Shape) → w.shape ≡ sh → HasShape g q sh w.parents → node_at g q ≡ Some w
              → HasShape after q (keyed_shape (some_for q rec).0 sh) (w.parents ++ interval_of grown id (some_for q rec).0 ∷ [])
          by w (Rec keys) is h there = (
            h.0,
            record {
              file_is = (frames.shapes h.0 (file_plain _ h.1.file_is)).file ∙ h.1.file_is;
              a_key_each = length-append keys ((some_for q rec).0 ∷ []) ∙ ap (λ m. m + 1) h.1.a_key_each
                  ∙ sym (ap length its_indexes ∙ length-append (indexes_of g h.0) (id ∷ []));
              parents = ap (λ qs. qs ++ interval_of grown id (some_for q rec).0 ∷ []) (h.1.parents ∙ sym old_parents)
                  ∙ sym (ap (λ xs. h.0 ∷ xs) (ap (λ is'. intervals_of after is' (keys ++ (some_for q rec).0 ∷ [])) its_indexes
                  ∙ intervals_append after (indexes_of g h.0) keys id (some_for q rec).0 h.1.a_key_each
                  ∙ ap (λ i. intervals_of after (indexes_of g h.0) keys ++ i ∷ []) (interval_after grown id rs ks id (some_for q rec).0)));
            },
          )
            where
              its_file : h.0 ≡ file
              its_file =
                  sym (same_node-equal file (first_parent g q) (sym (record_of_file g law q (and_both (is_record_shape (shape_of g q))
                  (is_child g file q) rec).0
                  file is_file) ∙ rec) ∙ ap (λ o. first_in (parents_in o)) there ∙ ap first_in h.1.parents)

              its_indexes : indexes_of after h.0 ≡ indexes_of g h.0 ++ id ∷ []
              its_indexes = ap (indexes_of after) its_file ∙ file_indexes ∙ ap (λ f. indexes_of g f ++ id ∷ []) (sym its_file)

              old_parents : h.0 ∷ intervals_of after (indexes_of g h.0) keys ≡ record_parents g h.0 keys
              old_parents = ap (λ xs. h.0 ∷ xs) (intervals_same g after frames h.0 (indexes_of g h.0) keys
                  (all_filter (λ i. is_index_of_shape h.0 (shape_of g i)) (nodes g)))
          by w _ is h there = absurd (no (ap (λ s. is_record_shape (Some s)) (sym is) ∙ ap (λ o. is_record_shape (shape_in o)) (sym there)
              ∙ (and_both (is_record_shape (shape_of g q)) (is_child g file q) rec).0))

    module _ (inner : AreInnerParents g 1 ps) (few : length bounds ≤ g.most_bounds) (bounds_rise : IsRising (0 ∷ bounds))
        (each : length interval_keys ≡ length bounds + 1) (room_for : length (indexes_of g file) + 1 ≤ 7) (apart : are_apart (key ∷ interval_keys) ≡ true)
        (free : (k : ℕ) → list_any (λ x. x == k) (key ∷ interval_keys) ≡ true → IsFreeKey g k) (room : node_count g + (2 + length bounds) ≤ g.most) where
      -- a node that is no record of the file is as its kind requires
      other_well : (q : NodeId) (node : Node) → node_at grown q ≡ Some node → is_record_of g file q ≡ false → HasShape after q node.shape node.parents
      other_well q node there other = old_or_new g law ns q node there
          (λ old. shape_same g after frames node.shape node.parents q
          (λ h rec up. indexes_now h (not_true (same_node h file) (λ t. no (sym other
          ∙ ap₂ (λ a b. a && b) (ap (λ o. is_record_shape (shape_in o)) old ∙ rec)
          (ap (λ y. is_child g y q) (sym (same_node-equal h file t)) ∙ ap (λ o. list_any (same_node h) (parents_in o)) old ∙ up)))))
          (law.well_formed q node old))
          (λ k at is. shape_same grown after grown_frames node.shape node.parents q
          (λ h rec up. absurd (no (sym (no_record_born g law key ps file bounds interval_keys k node at) ∙ rec)))
          (subst (λ y. IsWellFormed grown y node) (sym is) (well_born g law key ps file bounds interval_keys inner is_file few bounds_rise each k node at)))

      well : (q : NodeId) (node : Node) → node_at after q ≡ Some node → IsWellFormed after q node
      well q node e = split (is_record_of g file q) (λ rec. record_well q rec node e)
          (λ other. other_well q node (sym (other_after q (sym (live_after grown id rs ks q) ∙ ap is_some e) other) ∙ e) other)

      -- an inner node was there before, with its parents
      inner_child : (q p : NodeId) → is_inner_shape (shape_of after q) ≡ true → is_child after p q ≡ true → is_child g p q ≡ true
      inner_child q p kind c =
          let live = child_live after q p c in
          let grown_kind = sym (seen_after grown id rs ks is_inner_shape (λ keys keys'. refl) q) ∙ kind in
          let w = live_node (node_at grown q) (sym (live_after grown id rs ks q) ∙ live) in
          old_or_new g law ns q w.0 w.1
          (λ old. ap (λ o. list_any (same_node p) (parents_in o)) (sym (old_after q (ap is_some old) (inner_other (shape_of g q)
          (ap (λ o. is_inner_shape (shape_in o)) (old ∙ sym w.1) ∙ grown_kind)))) ∙ c)
          (λ k at is. absurd (no (sym (no_inner_born k w.0 at) ∙ ap (λ o. is_inner_shape (shape_in o)) (sym w.1) ∙ grown_kind)))
        where
          inner_other : (o : Option Shape) → is_inner_shape o ≡ true → (is_record_shape o && is_child g file q) ≡ false
          inner_other None h = absurd (no h)
          inner_other (Some (Rec keys)) h = absurd (no h)
          inner_other (Some _) h = refl

          no_inner_born : (k : ℕ) (node : Node) → place_in ns k ≡ Some node → is_inner_shape (Some node.shape) ≡ false
          no_inner_born zero node at = ap (λ (x : Node). is_inner_shape (Some x.shape)) (sym (some_is at))
          no_inner_born (suc k) node at = ap (λ (x : Node). is_inner_shape (Some x.shape)) (interval_node id interval_keys k node at)

      pub lawful_after : IsLawfulGraph after
      lawful_after = record {
        well_formed = well;
        parents_live = λ n p h. (rises after well n p h).live;
        acyclic = acyclic_by_kinds after well g inner_child law.acyclic;
        keys_differ = λ a b h k e. born_apart g law ns (free_born g law key ps file bounds interval_keys free)
            (places_apart ns (ap are_apart (keys_are g law key ps file bounds interval_keys) ∙ apart)) a b (sym (live_after grown id rs ks a) ∙ h)
            (sym (live_after grown id rs ks b) ∙ k) e;
        born = λ b h. born_counted g law ns b (sym (some_after grown id rs ks b) ∙ h);
        seven_indexes = λ h. split (same_node h file)
            (λ t. let all' = ap (λ f. length (indexes_of after f)) (same_node-equal h file t) ∙ ap length file_indexes
            ∙ length-append (indexes_of g file) (id ∷ []) in omega arith)
            (λ t. let all' = ap length (indexes_now h t) in let seven = law.seven_indexes h in omega arith);
        limit = subst (λ m. m ≤ 2 ^ 31) (sym (most_is g ns)) law.limit;
        room =
            let same : grown.most ≡ g.most = most_is g ns in
            let all' = count_grown g law ns in
            let count : node_count after ≡ node_count grown = ap length (nodes_after grown id rs ks) in
            let intervals = count_intervals id interval_keys in
            omega arith;
      }

-- what a new index over records needs
pub record IsRoomyOver (g : Graph) (ps : List NodeId) (f : NodeId) (bs : List ℕ) (rs : List NodeId) (ks : List ℕ) : Type 0 where
  pub births : g.births ≤ max_count - g.most
  pub inner : AreInnerParents g 1 ps
  pub file : is_file_shape (shape_of g f) ≡ true
  pub indexes : length (indexes_of g f) + 1 ≤ 7
  pub few : length bs ≤ g.most_bounds
  pub rise : IsRising (0 ∷ bs)
  pub named : are_keyed g f rs ks ≡ true
  pub room : node_count g + (2 + length bs) ≤ g.most

pub over_unrefused : (g : Graph) (ps : List NodeId) (f : NodeId) (bs : List ℕ) (rs : List NodeId) (ks : List ℕ) → over_refusal g ps f bs rs ks ≡ None
    → IsRoomyOver g ps f bs rs ks
over_unrefused g ps f bs rs ks e =
    let a = not_refused (worn_births g) _ e in
    let b = not_refused (some_no_node g (ps ++ f ∷ [])) _ a.1 in
    let c = not_refused (where_true (bad_index_place g ps f) refusal.BadParents) _ b.1 in
    let d = not_refused (where_true (bad_bounds g bs || not (are_keyed g f rs ks)) refusal.BadKeys) _ c.1 in
    let r = not_refused (too_many_nodes g (2 + length bs)) [] d.1 in
    let place = or_no (bad_parents g 1 ps || not (is_file_shape (shape_of g f))) (nat_le 7 (length (indexes_of g f))) (test_fails _ _ c.0) in
    let kinds = or_no (bad_parents g 1 ps) (not (is_file_shape (shape_of g f))) place.0 in
    let keys = or_no (bad_bounds g bs) (not (are_keyed g f rs ks)) (test_fails _ _ d.0) in
    let bounds = or_no (nat_lt g.most_bounds (length bs)) (not (is_rising (0 ∷ bs))) keys.0 in
    let seven = le_no 7 (length (indexes_of g f)) place.1 in
    record {
      births = lt_no (max_count - g.most) g.births (test_fails _ _ a.0);
      inner = inner_parents g 1 ps kinds.0;
      file = not_false _ kinds.1;
      indexes = omega arith;
      few = lt_no g.most_bounds (length bs) bounds.0;
      rise = rising (0 ∷ bs) (not_false _ bounds.1);
      named = not_false _ keys.1;
      room = enough_room g (2 + length bs) r.0;
    }

-- an index that is not refused was made over these records
module _ (g g' : Graph) (law : IsLawfulGraph g) (n : NodeId) (ps : List NodeId) (f : NodeId) (bs : List ℕ) (rs : List NodeId) (ks : List ℕ)
    (free : over_refusal g ps f bs rs ks ≡ None) (made : IsIndexOver g g' n ps f bs rs ks) where
  may : IsRoomyOver g ps f bs rs ks
  may = over_unrefused g ps f bs rs ks free

  abbrev new_keys : List ℕ
  new_keys = made.index.interval_keys

  abbrev now : Graph
  now = after g law n.key ps f bs new_keys rs ks

  abbrev born : Graph
  born = grown g law n.key ps f bs new_keys rs ks

  abbrev born_ns : List Node
  born_ns = ns g law n.key ps f bs new_keys rs ks

  is_n : id g law n.key ps f bs new_keys rs ks ≡ n
  is_n = node_is (id g law n.key ps f bs new_keys rs ks) n refl (sym made.index.birth)

  is_now : g' ≡ now
  is_now = made.after ∙ ap₂ (λ h m. keyed h m rs ks) made.index.after (sym is_n)

  pub over_lawful : IsLawfulGraph g'
  over_lawful = subst IsLawfulGraph (sym is_now) (lawful_after g law n.key ps f bs new_keys rs ks may.file may.named may.inner may.few may.rise
      made.index.intervals may.indexes made.index.keys_apart made.index.keys_free may.room)

  pub over_births : g'.births ≡ g.births + (2 + length bs)
  over_births =
      let all = births_are g born_ns in
      let count = count_intervals (id g law n.key ps f bs new_keys rs ks) new_keys in
      let many = made.index.intervals in
      let same : g'.births ≡ born.births = ap (λ (h : Graph). h.births) is_now in
      omega arith

  -- a node that is no record of the file stays
  pub over_stays : (q : NodeId) → is_live g q ≡ true → is_record_of g f q ≡ false → node_at g' q ≡ node_at g q
  over_stays q live other = ap (λ h. node_at h q) is_now ∙ old_after g law n.key ps f bs new_keys rs ks may.file may.named q live other

  pub over_live : (q : NodeId) → is_live g q ≡ true → is_live g' q ≡ true
  over_live q live =
      ap (λ h. is_live h q) is_now ∙ live_after born (id g law n.key ps f bs new_keys rs ks) rs ks q ∙ ap is_some (old_same g law born_ns q live) ∙ live

  -- a record of it has one more key, and the interval of that as one more parent
  pub over_record : (q : NodeId) → is_record_of g f q ≡ true → (k : ℕ)
      × (node_at g' q ≡ Some (record { key = q.key; shape = Rec (keys_in (shape_of g q) ++ k ∷ []); parents = parents_of g q ++ interval_of g' n k ∷ [] }))
  over_record q rec =
      let t = and_both (is_record_shape (shape_of g q)) (is_child g f q) rec in
      let w = live_node (node_at g q) (child_live g q f t.1) in
      let k = (some_for g law n.key ps f bs new_keys rs ks may.file may.named q rec).0 in
      let interval : interval_of born (id g law n.key ps f bs new_keys rs ks) k ≡ interval_of g' n k =
      sym (ap₂ (λ h m. interval_of h m k) is_now (sym is_n) ∙ interval_after born (id g law n.key ps f bs new_keys rs ks) rs ks
      (id g law n.key ps f bs new_keys rs ks) k) in
      let keys : keys_in (shape_of g q) ≡ keys_in (Some w.0.shape) = ap (λ o. keys_in (shape_in o)) w.1 in
      let rec_shape : is_record_shape (Some w.0.shape) ≡ true = ap (λ o. is_record_shape (shape_in o)) (sym w.1) ∙ t.0 in (
        k,
        ap (λ h. node_at h q) is_now ∙ record_after g law n.key ps f bs new_keys rs ks may.file may.named q rec
            ∙ ap (keyed_node born (id g law n.key ps f bs new_keys rs ks) (Some k)) w.1
            ∙ (λ i. Some (record {
              key = (found_at g q w.0 w.1).1 i;
              shape = (keyed_is k w.0.shape rec_shape ∙ ap (λ xs. Rec (xs ++ k ∷ [])) (sym keys)) i;
              parents = ap₂ (λ qs j. qs ++ j ∷ []) (sym (ap parents_in w.1)) interval i;
            })),
      )
    where
      keyed_is : (k : ℕ) (sh : Shape) → is_record_shape (Some sh) ≡ true → keyed_shape k sh ≡ Rec (keys_in (Some sh) ++ k ∷ [])
      keyed_is k (Rec keys) h = refl
      keyed_is k _ h = absurd (no h)

  pub over_index : node_at g' n ≡ Some (record { key = n.key; shape = Index f bs (ids_of (n.birth + 1) new_keys); parents = ps })
  over_index =
      let there = index_there g law n.key ps f bs new_keys in
      let none = not_true (is_record_of g f (id g law n.key ps f bs new_keys rs ks)) (λ t.
      over_unborn (child_live g _ f (and_both (is_record_shape (shape_of g _)) (is_child g f _) t).1)) in
      ap₂ node_at is_now (sym is_n)
      ∙ other_after g law n.key ps f bs new_keys rs ks may.file may.named (id g law n.key ps f bs new_keys rs ks) (ap is_some there) none ∙ there
      ∙ ap (λ b. Some (record { key = n.key; shape = Index f bs (ids_of (b + 1) new_keys); parents = ps })) (sym made.index.birth)
    where
      over_unborn : is_live g (id g law n.key ps f bs new_keys rs ks) ≡ true → ⊥
      over_unborn h = let low = old_below g law born_ns (id g law n.key ps f bs new_keys rs ks) h in absurd (omega arith)

  pub over_above : (q : NodeId) → is_live g' q ≡ true → is_live g q ≡ false → g.births < q.birth
  over_above q live dead =
      let w = live_node (node_at born q) (sym (ap (λ h. is_live h q) is_now ∙ live_after born (id g law n.key ps f bs new_keys rs ks) rs ks q) ∙ live) in
      old_or_new g law born_ns q w.0 w.1 (λ old. absurd (no (sym dead ∙ ap is_some old))) (λ k at is. let birth = ap (λ
      (y : NodeId). y.birth) is in omega arith)

  pub over_dead : is_live g n ≡ false
  over_dead = not_true (is_live g n) (λ h. let low = old_below g law born_ns n h in let birth = made.index.birth in absurd (omega arith))

  -- a new node is the index or one of its intervals
  pub over_new : (q : NodeId) → is_live g' q ≡ true → is_live g q ≡ false
      → (q ≡ n) ⊎ (node_at g' q ≡ Some (record { key = q.key; shape = Interval; parents = n ∷ [] }))
  over_new q live dead =
      let w = live_node (node_at born q) (sym (ap (λ h. is_live h q) is_now ∙ live_after born (id g law n.key ps f bs new_keys rs ks) rs ks q) ∙ live) in
      old_or_new g law born_ns q w.0 w.1 (λ old. absurd (no (sym dead ∙ ap is_some old))) (λ k at is. by k w.0 at is w.1)
    where
      none : is_record_of g f q ≡ false
      none = not_true (is_record_of g f q) (λ t. no (sym dead ∙ child_live g q f (and_both (is_record_shape (shape_of g q)) (is_child g f q) t).1))

      by : (k : ℕ) (w : Node) → place_in born_ns k ≡ Some w → q ≡ new_id g law born_ns w k → node_at born q ≡ Some w
          → (q ≡ n) ⊎ (node_at g' q ≡ Some (record { key = q.key; shape = Interval; parents = n ∷ [] }))
      by zero w at is there =
          let birth : g.births + 1 + 0 ≡ g.births + 1 = omega arith in
          inl (is ∙ node_is (new_id g law born_ns w 0) (id g law n.key ps f bs new_keys rs ks) (ap (λ (y : Node). y.key) (sym (some_is at))) birth ∙ is_n)
      by (suc k) w at is there = inr (
          ap (λ h. node_at h q) is_now ∙ other_after g law n.key ps f bs new_keys rs ks may.file may.named q (ap is_some there) none ∙ there
          ∙ ap Some (interval_node (id g law n.key ps f bs new_keys rs ks) new_keys k w at)
          ∙ (λ i. Some (record { key = (found_at born q w there).1 i; shape = Interval; parents = is_n i ∷ [] })))

  pub over_interval : (k : ℕ) → node_at g' (interval_of g' n k) ≡ Some (record { key = (interval_of g' n k).key; shape = Interval; parents = n ∷ [] })
  over_interval k = interval_is g' over_lawful f n k (ap (λ o. is_index_of_shape f (shape_in o)) over_index ∙ same_node-refl f)

pub indexes_keep_graphs : IndexesKeepGraphs
indexes_keep_graphs g g' n ps f bs rs ks law free made = over_lawful g g' law n ps f bs rs ks free made
