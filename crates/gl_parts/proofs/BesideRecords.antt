-- What an index of a file adds to a graph, beside records or not: a parent of each record of the file, which is below the index.
use Rattle.std.specs.Prelude.{◌≡◌, ℕ, true, false, ◌&&◌, ◌==◌, ◌+◌, ◌<◌, nat_le, nat_lt, List, [], ◌∷◌, ◌++◌, length, map, take, suc, zero}
use Rattle.std.specs.Prelude.{Option, Some, None, if◌then◌else◌, is_some, slice_index_or}
use Rattle.std.specs.List.{AllByRecursion, IsDistinct, filter, list_all, list_any}
use Rattle.std.proofs.Common.{refl, sym, ap, ap₂, arith, subst, ◌∙◌}
use Rattle.std.proofs.lemmas.Bool.Decides.{nat_tests}
use Rattle.std.proofs.lemmas.List.{append-nil}
use Rattle.std.proofs.lemmas.List.Folds.{list_any-append}
use Rattle.std.proofs.lemmas.List.Sums.{count_by-le-length, length-filter}
use Rattle.std.proofs.lemmas.Map.Made.{length-le_from_is_member}
use Rattle.gl_modes.specs.declared.node.NodeId.{NodeId}
use Rattle.gl_modes.specs.Nodes.{same_node}
use Rattle.gl_modes.proofs.NodeLemmas.{node_is, same_node-equal, same_node-refl}
use Rattle.gl_modes.proofs.Words.{and_both, both, cases_of, clash, no, none_some, not_true, number_same, or_elim, or_left, or_right, same_number, split}
use Rattle.gl_graph.specs.Changes.{born_index, ids_of, interval_nodes}
use Rattle.gl_graph.specs.Graph.{Graph, Node, indexes_of, interval_of, interval_place, is_child, is_live, is_record_of, no_node, node_at, nodes, parents_in}
use Rattle.gl_graph.specs.Graph.{parents_of, shape_in, shape_of}
use Rattle.gl_graph.specs.Lawful.{IsLawfulGraph, IsRising}
use Rattle.gl_graph.specs.Over.{IsIndexOver, are_keyed, key_for, keyed, keyed_node}
use Rattle.gl_graph.specs.Shapes.{Interval, Rec, Shape, bounds_in, intervals_in, is_file_shape, is_record_shape}
use Rattle.gl_graph.proofs.Born.{new_id, new_node, old_below, old_or_new, old_same, place_in}
use Rattle.gl_graph.proofs.Distinct.{any_filtered}
use Rattle.gl_graph.proofs.Look.{child_live, live_node, one_birth}
use Rattle.gl_graph.proofs.NewIndex.{file_index, index_there, no_record_born, ns, others}
use Rattle.gl_graph.proofs.OverGraph.{each_record, indexes_after, keys_many, many, node_after, rise, seen_after}
use Rattle.gl_graph.proofs.RouteLengths.{listed, node_equivalence}
use Rattle.gl_graph.proofs.Unrefused.{or_no}

-- the index i of file f has the parents ps; each record of the file has one more parent, which has i as its one parent; and all else that paths pass stays
pub record AddsIndex (g g' : Graph) (i : NodeId) (ps : List NodeId) (f : NodeId) : Type 0 where
  pub is_new : is_live g i ≡ false
  pub parents : parents_of g' i ≡ ps
  pub indexes : (q : NodeId) → indexes_of g' q ≡ indexes_of g q ++ (if same_node q f then i ∷ [] else [])
  pub files : (q : NodeId) → is_live g q ≡ true → is_file_shape (shape_of g' q) ≡ is_file_shape (shape_of g q)
  pub records : (q : NodeId) → is_live g q ≡ true → is_record_shape (shape_of g' q) ≡ is_record_shape (shape_of g q)
  pub of_file : (q : NodeId) → is_record_of g' f q ≡ is_record_of g f q
  pub others : (q : NodeId) → is_live g q ≡ true → is_record_of g f q ≡ false → parents_of g' q ≡ parents_of g q
  pub firsts : (q : NodeId) → is_live g q ≡ true → take 1 (parents_of g' q) ≡ take 1 (parents_of g q)
  pub above : (q : NodeId) → is_record_of g f q ≡ true → (j : NodeId) × (parents_of g' q ≡ parents_of g q ++ j ∷ []) × (parents_of g' j ≡ i ∷ [])

-- a birth with a key is that of one of these records
key_named : (rs : List NodeId) (ks : List ℕ) (b k : ℕ) → key_for rs ks b ≡ Some k → (r : NodeId) × (list_any (same_node r) rs ≡ true) × (r.birth ≡ b)
key_named [] ks b k e = absurd (none_some e)
key_named (r ∷ rs) [] b k e = absurd (none_some e)
key_named (r ∷ rs) (x ∷ ks) b k e = split (r.birth == b)
    (λ here. (r, or_left (same_node r r) _ (same_node-refl r), same_number r.birth b here))
    (λ other.
    let rest = key_named rs ks b k (sym (ap (λ z. if z then Some x else key_for rs ks b) other) ∙ e) in
    (rest.0, or_right (same_node rest.0 r) _ rest.1, rest.2))

-- and each of them has a key
has_key : (rs : List NodeId) (ks : List ℕ) (r : NodeId) → length ks ≡ length rs → list_any (same_node r) rs ≡ true
    → (k : ℕ) × (key_for rs ks r.birth ≡ Some k)
has_key [] ks r many h = absurd (no h)
has_key (q ∷ rs) [] r many h = absurd (omega arith)
has_key (q ∷ rs) (x ∷ ks) r many h = split (q.birth == r.birth)
    (λ here. (x, ap (λ z. if z then Some x else key_for rs ks r.birth) here))
    (λ other.
    let there = or_elim (same_node r q) (list_any (same_node r) rs) h
    (λ e. clash (number_same q.birth r.birth (ap (λ (y : NodeId). y.birth) (sym (same_node-equal r q e)))) other) (λ t. t) in
    let rest = has_key rs ks r (omega arith) there in
    (rest.0, ap (λ z. if z then Some x else key_for rs ks r.birth) other ∙ rest.1))

-- in order of birth no two of them are the same
none_same : (r : NodeId) (rs : List NodeId) → list_any (same_node r) rs ≡ false → AllByRecursion (λ q. same_node r q ≡ false) rs
none_same r [] h = tt
none_same r (q ∷ rs) h = let t = or_no (same_node r q) _ h in (t.0, none_same r rs t.1)

not_later : (r : NodeId) (rs : List NodeId) → list_all (λ b. nat_lt r.birth b) (map (λ (q : NodeId). q.birth) rs) ≡ true → list_any (same_node r) rs ≡ false
not_later r [] h = refl
not_later r (q ∷ rs) h = grind (arith, not_later r rs, nat_tests, and_both)

distinct : (rs : List NodeId) → IsRising (map (λ (q : NodeId). q.birth) rs) → IsDistinct same_node rs
unfolding IsDistinct
distinct [] h = tt
distinct (r ∷ rs) h = (none_same r rs (not_later r rs h.0), distinct rs h.1)

distinct_with : (r : NodeId) (rs : List NodeId) → list_any (same_node r) rs ≡ false → IsDistinct same_node rs → IsDistinct same_node (r ∷ rs)
unfolding IsDistinct
distinct_with r rs h d = (none_same r rs h, d)

-- the interval at each place of an index, as it is born
at_place : (index : NodeId) (birth : ℕ) (keys : List ℕ) (place : ℕ) → place < length keys → (key : ℕ)
    × (slice_index_or (ids_of birth keys) place no_node ≡ record { key = key; birth = birth + place })
    × (place_in (interval_nodes index keys) place ≡ Some (record { key = key; shape = Interval; parents = index ∷ [] }))
at_place index birth [] place low = absurd (omega arith)
at_place index birth (k ∷ ks) zero low = (k, node_is (record { key = k; birth = birth }) (record { key = k; birth = birth + 0 }) refl (omega arith), refl)
at_place index birth (k ∷ ks) (suc place) low =
    let rest = at_place index (birth + 1) ks place (omega arith) in (
      rest.0,
      rest.1 ∙ node_is (record { key = rest.0; birth = birth + 1 + place }) (record { key = rest.0; birth = birth + suc place }) refl (omega arith),
      rest.2,
    )

-- more parents leave the first, if there is one
first_of : (qs more : List NodeId) (p : NodeId) → list_any (same_node p) qs ≡ true → take 1 (qs ++ more) ≡ take 1 qs
first_of [] more p h = absurd (no h)
first_of (q ∷ qs) more p h = refl

module _ (g : Graph) (law : IsLawfulGraph g) (key : ℕ) (ps : List NodeId) (f : NodeId) (bs interval_keys : List ℕ) (rs : List NodeId) (ks : List ℕ) where
  abbrev pub i : NodeId
  i = record { key = key; birth = g.births + 1 }

  abbrev pub born : Graph
  born = born_index g key ps f bs interval_keys

  abbrev pub after : Graph
  after = keyed born i rs ks

  -- the file has the index, last; other files keep theirs
  adds_to : (q : NodeId) → indexes_of after q ≡ indexes_of g q ++ (if same_node q f then i ∷ [] else [])
  adds_to q =
      indexes_after born i rs ks q ∙ split (same_node q f)
      (λ e. subst (λ y. indexes_of born y ≡ indexes_of g y ++ i ∷ []) (sym (same_node-equal q f e)) (file_index g law key ps f bs interval_keys)
      ∙ ap (λ b. indexes_of g q ++ (if b then i ∷ [] else [])) (sym e))
      (λ e. others g law key ps f bs interval_keys q e ∙ sym (append-nil (indexes_of g q))
      ∙ ap (λ b. indexes_of g q ++ (if b then i ∷ [] else [])) (sym e))

  -- an old node, with one more key if there is one for it
  was : (q : NodeId) → is_live g q ≡ true → node_at after q ≡ keyed_node born i (key_for rs ks q.birth) (node_at g q)
  was q live =
      node_after born i rs ks q
      ∙ ap (keyed_node born i (key_for rs ks q.birth)) (old_same g law (ns g law key ps f bs interval_keys) q live)

  -- what records have alike is seen of each old node as before
  sees : {A : Type 0} (see : Option Shape → A) → ((keys keys' : List ℕ) → see (Some (Rec keys)) ≡ see (Some (Rec keys'))) → (q : NodeId)
      → is_live g q ≡ true → see (shape_of after q) ≡ see (shape_of g q)
  sees see recs q live =
      seen_after born i rs ks see recs q ∙ ap (λ o. see (shape_in o)) (old_same g law (ns g law key ps f bs interval_keys) q live)

  -- no record is new
  record_old : (q : NodeId) → is_record_shape (shape_of after q) ≡ true → is_live g q ≡ true
  record_old q rec =
      let kind = sym (seen_after born i rs ks is_record_shape (λ keys keys'. refl) q) ∙ rec in
      cases_of (node_at born q) (λ e. absurd (no (sym (ap (λ o. is_record_shape (shape_in o)) e) ∙ kind))) (λ w e.
      old_or_new g law (ns g law key ps f bs interval_keys) q w e (λ old. ap is_some old) (λ place at is.
      clash (sym (ap (λ o. is_record_shape (shape_in o)) e) ∙ kind) (no_record_born g law key ps f bs interval_keys place w at)))

  module _ (all : are_keyed g f rs ks ≡ true) where
    record_live : (r : NodeId) → is_record_of g f r ≡ true → is_live g r ≡ true
    record_live r rec = child_live g r f (and_both (is_record_shape (shape_of g r)) (is_child g f r) rec).1

    in_file : (r : NodeId) → is_record_of g f r ≡ true → list_any (same_node r) (filter (is_record_of g f) (nodes g)) ≡ true
    in_file r rec = any_filtered (is_record_of g f) r (nodes g) (listed g law r (record_live r rec)) rec

    -- the records with a key are all records of the file
    named : (r : NodeId) → is_record_of g f r ≡ true → list_any (same_node r) rs ≡ true
    named r rec = split (list_any (same_node r) rs) (λ e. e) (λ other.
        let few = length-le_from_is_member node_equivalence (r ∷ rs) (filter (is_record_of g f) (nodes g))
        (distinct_with r rs other (distinct rs (rise g f rs ks all).1)) among in
        let count = length-filter (is_record_of g f) (nodes g) in
        let many' = many g f rs ks all in
        absurd (omega arith))
      where
        among : (q : NodeId) → list_any (same_node q) (r ∷ rs) ≡ true → list_any (same_node q) (filter (is_record_of g f) (nodes g)) ≡ true
        among q h = in_file q (or_elim (same_node q r) (list_any (same_node q) rs) h
            (λ here. ap (is_record_of g f) (same_node-equal q r here) ∙ rec) (each_record g f rs ks all q))

    -- there is no key for any other node
    none_for : (q : NodeId) → is_live g q ≡ true → is_record_of g f q ≡ false → key_for rs ks q.birth ≡ None
    none_for q live other = cases_of (key_for rs ks q.birth) (λ e. e) (λ k e.
        let r = key_named rs ks q.birth k e in
        let rec = each_record g f rs ks all r.0 r.1 in
        clash (ap (is_record_of g f) (sym (one_birth g r.0 q (record_live r.0 rec) live r.2)) ∙ rec) other)

    none_new : (b : ℕ) → g.births < b → key_for rs ks b ≡ None
    none_new b high = cases_of (key_for rs ks b) (λ e. e) (λ k e.
        let r = key_named rs ks b k e in
        let low = old_below g law [] r.0 (record_live r.0 (each_record g f rs ks all r.0 r.1)) in
        let birth = r.2 in
        absurd (omega arith))

    -- an old node that is no record of the file stays
    kept : (q : NodeId) → is_live g q ≡ true → is_record_of g f q ≡ false → node_at after q ≡ node_at g q
    kept q live other = was q live ∙ ap (λ o. keyed_node born i o (node_at g q)) (none_for q live other)

    -- a record of the file has one parent more, an interval of the index
    gains : (r : NodeId) → is_record_of g f r ≡ true → (k : ℕ) × (parents_of after r ≡ parents_of g r ++ interval_of born i k ∷ [])
    gains r rec =
        let k = has_key rs ks r (keys_many g f rs ks all) (named r rec) in
        let live = record_live r rec in
        let w = live_node (node_at g r) live in (
          k.0,
          ap parents_in (was r live ∙ ap₂ (keyed_node born i) k.1 w.1) ∙ ap (λ o. parents_in o ++ interval_of born i k.0 ∷ []) (sym w.1),
        )

    -- the first parent of an old node stays
    first_kept : (q : NodeId) → is_live g q ≡ true → take 1 (parents_of after q) ≡ take 1 (parents_of g q)
    first_kept q live = split (is_record_of g f q)
        (λ rec.
        let more = gains q rec in
        ap (take 1) more.1 ∙ first_of (parents_of g q) (interval_of born i more.0 ∷ []) f (and_both (is_record_shape (shape_of g q)) (is_child g f q) rec).1)
        (λ other. ap (λ o. take 1 (parents_in o)) (kept q live other))

    -- the records of the file are those that it had
    record_was : (r : NodeId) → is_record_of after f r ≡ true → is_record_of g f r ≡ true
    record_was r rec = split (is_record_of g f r) (λ e. e) (λ other.
        ap (λ o. is_record_shape (shape_in o) && list_any (same_node f) (parents_in o))
        (sym (kept r (record_old r (and_both (is_record_shape (shape_of after r)) (is_child after f r) rec).0) other)) ∙ rec)

    record_stays : (r : NodeId) → is_record_of g f r ≡ true → is_record_of after f r ≡ true
    record_stays r rec =
        let t = and_both (is_record_shape (shape_of g r)) (is_child g f r) rec in
        let more = gains r rec in
        both _ _ (sees is_record_shape (λ keys keys'. refl) r (record_live r rec) ∙ t.0)
        (ap (list_any (same_node f)) more.1 ∙ list_any-append (same_node f) (parents_of g r) (interval_of born i more.0 ∷ [])
        ∙ or_left (list_any (same_node f) (parents_of g r)) _ t.1)

    -- the new nodes are as they were born
    as_born : (q : NodeId) → g.births < q.birth → node_at after q ≡ node_at born q
    as_born q high = node_after born i rs ks q ∙ ap (λ o. keyed_node born i o (node_at born q)) (none_new q.birth high)

    index_parents : parents_of after i ≡ ps
    index_parents = ap parents_in (as_born i (omega arith) ∙ index_there g law key ps f bs interval_keys)

    interval_parents : length interval_keys ≡ length bs + 1 → (k : ℕ) → parents_of after (interval_of born i k) ≡ i ∷ []
    interval_parents count k =
        let place = interval_place bs k in
        let low = count_by-le-length (λ b. nat_le b k) bs in
        let there = at_place i (g.births + 1 + 1) interval_keys place (omega arith) in
        let node : Node = record { key = there.0; shape = Interval; parents = i ∷ [] } in
        let is : interval_of born i k ≡ new_id g law (ns g law key ps f bs interval_keys) node (suc place) =
        ap (λ o. slice_index_or (intervals_in (shape_in o)) (interval_place (bounds_in (shape_in o)) k) no_node) (index_there g law key ps f bs interval_keys)
        ∙ there.1 ∙ node_is (record { key = there.0; birth = g.births + 1 + 1 + place }) (record { key = there.0; birth = g.births + 1 + suc place }) refl
        (omega arith) in
        ap (parents_of after) is ∙ ap parents_in (as_born (new_id g law (ns g law key ps f bs interval_keys) node (suc place)) (omega arith)
        ∙ new_node g law (ns g law key ps f bs interval_keys) (suc place) node there.2)

    adds : length interval_keys ≡ length bs + 1 → AddsIndex g after i ps f
    adds count = record {
      is_new = not_true (is_live g i) (λ live. let low = old_below g law [] i live in absurd (omega arith));
      parents = index_parents;
      indexes = adds_to;
      files = sees is_file_shape (λ keys keys'. refl);
      records = sees is_record_shape (λ keys keys'. refl);
      of_file = λ q. split (is_record_of g f q)
          (λ rec. record_stays q rec ∙ sym rec)
          (λ other. not_true (is_record_of after f q) (λ rec. clash (record_was q rec) other) ∙ sym other);
      others = λ q live other. ap parents_in (kept q live other);
      firsts = first_kept;
      above = λ q rec. let more = gains q rec in (interval_of born i more.0, more.1, interval_parents count more.0);
    }

-- the graph by its definition
module _ (g g' : Graph) (law : IsLawfulGraph g) (n : NodeId) (ps : List NodeId) (f : NodeId) (bs : List ℕ) (rs : List NodeId) (ks : List ℕ)
    (made : IsIndexOver g g' n ps f bs rs ks) where
  is_index : i g law n.key ps f bs made.index.interval_keys rs ks ≡ n
  is_index = node_is (i g law n.key ps f bs made.index.interval_keys rs ks) n refl (sym made.index.birth)

  is_after : after g law n.key ps f bs made.index.interval_keys rs ks ≡ g'
  is_after = sym (made.after ∙ ap₂ (λ h m. keyed h m rs ks) made.index.after (sym is_index))

  pub over_adds_to : (q : NodeId) → indexes_of g' q ≡ indexes_of g q ++ (if same_node q f then n ∷ [] else [])
  over_adds_to q =
      ap (λ h. indexes_of h q) (sym is_after) ∙ adds_to g law n.key ps f bs made.index.interval_keys rs ks q
      ∙ ap (λ m. indexes_of g q ++ (if same_node q f then m ∷ [] else [])) is_index

  pub over_adds : are_keyed g f rs ks ≡ true → AddsIndex g g' n ps f
  over_adds all =
      subst (λ h. AddsIndex g h n ps f) is_after
      (subst (λ m. AddsIndex g (after g law n.key ps f bs made.index.interval_keys rs ks) m ps f) is_index
      (adds g law n.key ps f bs made.index.interval_keys rs ks all made.index.intervals))
