-- A merge undoes a split.
use Rattle.std.proofs.Common.{◌∙◌, ⊎_elim, ap, ap₂, arith, refl, sym}
use Rattle.std.proofs.Math.Path.{fun_ext}
use Rattle.std.proofs.lemmas.List.Edits.{get_or-insert_at, get_or-insert_below, length-insert}
use Rattle.std.specs.List.{insert, list_any, position_or_len, remove}
use Rattle.std.specs.Prelude.{◌≡◌, ◌≢◌, ◌+◌, ◌≤◌, ℕ, true, false, ◌||◌, List, [], ◌∷◌, length, Some, None, is_some, slice_index_or}
use Rattle.gl_modes.proofs.NodeLemmas.{same_node-equal, same_node-other}
use Rattle.gl_modes.proofs.Words.{cases_of, no, none_some, not_true, or_right, split as by_cases}
use Rattle.gl_modes.specs.Nodes.{same_node}
use Rattle.gl_modes.specs.declared.node.NodeId.{NodeId}
use Rattle.gl_graph.proofs.Distinct.{one_place}
use Rattle.gl_graph.proofs.Look.{finds, found_at, live_node}
use Rattle.gl_graph.specs.Graph.{first_in, first_parent, Graph, indexes_of, interval_of, intervals_of, is_live, IsFreeKey, no_node, node_at, parents_in}
use Rattle.gl_graph.specs.Graph.{parents_of, record_parents, shape_in, shape_of}
use Rattle.gl_graph.specs.Lawful.{HasShape, IsLawfulGraph}
use Rattle.gl_graph.specs.Shapes.{bounds_in, Index, Interval, intervals_in, is_interval_shape, Rec, Shape}
use Rattle.gl_graph.specs.SplitLaws.{MergesUndoSplits}
use Rattle.gl_graph.specs.Splits.{file_of, merge, next_interval, place_among, settled_node, settled_parents, split}
use Rattle.gl_graph.proofs.Around.{at_place, its_index, its_node, listed, place_low, shape_is}
use Rattle.gl_graph.proofs.Lists.{any_insert, found_at_place, remove_inserted}
use Rattle.gl_graph.proofs.MergeGraph.{CanMerge, lived, merge_other, merge_recut}
use Rattle.gl_graph.proofs.Recut.{record_settled}
use Rattle.gl_graph.proofs.Settled.{interval_same}
use Rattle.gl_graph.proofs.SplitGraph.{can_split, CanSplit, fresh, n, old_lives, old_or_n, split_fits, split_lawful, split_other, split_recut}

-- graphs in which each id names the same have the same nodes
at_same : (g h : Graph) → ((q : NodeId) → node_at h q ≡ node_at g q) → (b : ℕ) → h.at b ≡ g.at b
at_same g h same b =
    cases_of (g.at b)
    (λ e. cases_of (h.at b) (λ none. none ∙ sym e) (λ y there.
    let id : NodeId = record { key = y.key; birth = b } in
    absurd (none_some (sym e ∙ (found_at g id y (sym (same id) ∙ finds y.key (h.at b) y there refl)).0))))
    (λ y e.
    let id : NodeId = record { key = y.key; birth = b } in
    (found_at h id y (same id ∙ finds y.key (g.at b) y e refl)).0 ∙ sym e)

module _ (g : Graph) (law : IsLawfulGraph g) (i : NodeId) (bound : ℕ) (can : CanSplit g i bound) (key : ℕ) (free : IsFreeKey g key) where
  abbrev x : NodeId
  x = first_parent g i

  abbrev bounds : List ℕ
  bounds = bounds_in (shape_of g x)

  abbrev intervals : List NodeId
  intervals = intervals_in (shape_of g x)

  abbrev place : ℕ
  place = place_among g i

  abbrev file : NodeId
  file = file_of (shape_of g x)

  abbrev new : NodeId
  new = n g law i bound can key

  abbrev cut : Graph
  cut = split g i bound key

  abbrev bounds' : List ℕ
  bounds' = insert bounds place bound

  abbrev intervals' : List NodeId
  intervals' = insert intervals (place + 1) new

  law' : IsLawfulGraph cut
  law' = split_lawful g law i bound can key free

  room : place + 1 ≤ length intervals
  room = let low = (at_place g law i can.kind).0 in omega arith

  i_listed : list_any (same_node i) intervals' ≡ true
  i_listed = any_insert (same_node i) intervals (place + 1) new ∙ or_right (same_node i new) (list_any (same_node i) intervals) (listed g law i can.kind)

  i_node : node_at cut i ≡ Some (record { key = i.key; shape = Interval; parents = x ∷ [] })
  i_node = (split_recut g law i bound can key).listed i i_listed

  -- the interval has its index and its place still
  same_x : first_parent cut i ≡ x
  same_x = ap (λ o. first_in (parents_in o)) i_node

  cut_x : shape_of cut x ≡ Some (Index file bounds' intervals')
  cut_x = ap shape_in (split_recut g law i bound can key).here

  same_file : file_of (shape_of cut (first_parent cut i)) ≡ file
  same_file = ap (λ y. file_of (shape_of cut y)) same_x ∙ ap file_of cut_x

  new_bounds : bounds_in (shape_of cut (first_parent cut i)) ≡ bounds'
  new_bounds = ap (λ y. bounds_in (shape_of cut y)) same_x ∙ ap bounds_in cut_x

  new_intervals : intervals_in (shape_of cut (first_parent cut i)) ≡ intervals'
  new_intervals = ap (λ y. intervals_in (shape_of cut y)) same_x ∙ ap intervals_in cut_x

  same_place : place_among cut i ≡ place
  same_place =
      let at = found_at_place intervals' i no_node i_listed in
      let count = length-insert intervals (place + 1) new room in
      let here = get_or-insert_below intervals (place + 1) new no_node place (omega arith) room ∙ (at_place g law i can.kind).1 in
      ap (λ zs. position_or_len (λ j. same_node j i) zs) new_intervals
      ∙ one_place intervals' (position_or_len (λ j. same_node j i) intervals') place no_node (split_fits g law i bound can key free).distinct at.0
      (let low = room in omega arith) (at.1 ∙ sym here)

  next_is : next_interval cut i ≡ new
  next_is = ap₂ (λ zs k. slice_index_or zs (k + 1) no_node) new_intervals same_place ∙ get_or-insert_at intervals (place + 1) new no_node room

  can' : CanMerge cut i
  can' = record {
    kind = ap (λ o. is_interval_shape (shape_in o)) i_node;
    next =
        let low = place_low g law i can.kind in
        let len = length-insert bounds place bound low in
        let same : length (bounds_in (shape_of cut (first_parent cut i))) ≡ length bounds' = ap length new_bounds in
        let at = same_place in
        omega arith;
  }

  abbrev whole : Graph
  whole = merge cut i

  old_bounds : remove (bounds_in (shape_of cut (first_parent cut i))) (place_among cut i) ≡ bounds
  old_bounds = ap₂ remove new_bounds same_place ∙ remove_inserted bounds place bound (place_low g law i can.kind)

  old_intervals : remove (intervals_in (shape_of cut (first_parent cut i))) (place_among cut i + 1) ≡ intervals
  old_intervals = ap₂ (λ zs k. remove zs (k + 1)) new_intervals same_place ∙ remove_inserted intervals (place + 1) new room

  old_parents : parents_of cut (first_parent cut i) ≡ parents_of g x
  old_parents = ap (parents_of cut) same_x ∙ ap parents_in (split_recut g law i bound can key).here

  index_same : node_at whole x ≡ node_at g x
  index_same =
      let was = its_node g law i can.kind in
      ap (node_at whole) (sym same_x) ∙ (merge_recut cut law' i can').here
      ∙ (λ j. Some (record { key = (same_x j).key; shape = Index (same_file j) (old_bounds j) (old_intervals j); parents = old_parents j }))
      ∙ (λ j. Some (record { key = sym (found_at g x was.0 was.1).1 j; shape = sym was.2 j; parents = ap parents_in was.1 j })) ∙ sym was.1

  -- each key is in the interval where it was
  interval_back : (y : NodeId) (k : ℕ) → interval_of whole y k ≡ interval_of g y k
  interval_back y k =
      by_cases (same_node y x)
      (λ t. let e = same_node-equal y x t in
      ap (λ z. interval_of whole z k) e ∙ interval_same g whole x k (ap shape_in index_same) ∙ sym (ap (λ z. interval_of g z k) e))
      (λ t. let ne = same_node-other y x t in
      merge_other cut law' i can' y (λ e. ne (e ∙ same_x)) k ∙ split_other g law i bound can key y ne k)

  intervals_back : (ys : List NodeId) (keys : List ℕ) → intervals_of whole ys keys ≡ intervals_of g ys keys
  intervals_back [] keys = refl
  intervals_back (y ∷ ys) [] = refl
  intervals_back (y ∷ ys) (k ∷ ks) = ap₂ (λ a b. a ∷ b) (interval_back y k) (intervals_back ys ks)

  parents_back : (h : NodeId) (keys : List ℕ) → record_parents whole h keys ≡ record_parents g h keys
  parents_back h keys =
      ap (λ zs. h ∷ zs) (ap (λ ys. intervals_of whole ys keys) ((merge_recut cut law' i can').indexes h ∙ (split_recut g law i bound can key).indexes h)
      ∙ intervals_back (indexes_of g h) keys)

  -- and each record under the parents that it had
  settled_back : (q : NodeId) (sh : Shape) (ps : List NodeId) → HasShape g q sh ps
      → settled_parents whole (file_of (shape_of cut (first_parent cut i))) sh (settled_parents cut file sh ps) ≡ ps
  settled_back q (Rec keys) ps h =
      ap (settled_parents whole (file_of (shape_of cut (first_parent cut i))) (Rec keys))
      (record_settled g cut law x file bounds bounds' intervals intervals' (shape_is g law i can.kind) (split_recut g law i bound can key)
      h.0 keys ps h.1.parents)
      ∙ record_settled cut whole law' (first_parent cut i) (file_of (shape_of cut (first_parent cut i))) (bounds_in (shape_of cut (first_parent cut i)))
      (remove (bounds_in (shape_of cut (first_parent cut i))) (place_among cut i)) (intervals_in (shape_of cut (first_parent cut i)))
      (remove (intervals_in (shape_of cut (first_parent cut i))) (place_among cut i + 1)) (shape_is cut law' i can'.kind) (merge_recut cut law' i can') h.0 keys
      (record_parents cut h.0 keys) refl
      ∙ parents_back h.0 keys ∙ sym h.1.parents
  settled_back q _ ps h = refl

  other_same : (q : NodeId) → q ≢ x → node_at whole q ≡ node_at g q
  other_same q ne =
      by_cases (is_live g q)
      (λ live. by_cases (list_any (same_node q) intervals)
      (λ l. (merge_recut cut law' i can').listed q (ap (list_any (same_node q)) old_intervals ∙ l)
      ∙ ap (λ y. Some (record { key = q.key; shape = Interval; parents = y ∷ [] })) same_x ∙ sym ((its_index g law i can.kind).intervals q l))
      (λ out.
      let node = live_node (node_at g q) live in
      let out' : list_any (same_node q) (intervals_in (shape_of cut (first_parent cut i))) ≡ false =
      ap (list_any (same_node q)) new_intervals ∙ any_insert (same_node q) intervals (place + 1) new
      ∙ ap₂ (λ a b. a || b) (not_true (same_node q new) (λ e. fresh g law i bound can key q live (same_node-equal q new e))) out in
      (merge_recut cut law' i can').others q (old_lives g law i bound can key q live) (λ e. ne (e ∙ same_x)) out'
      ∙ ap (settled_node whole (file_of (shape_of cut (first_parent cut i)))) ((split_recut g law i bound can key).others q live ne out
      ∙ ap (settled_node cut file) node.1)
      ∙ ap (λ ps. Some (record node.0 { parents = ps })) (settled_back q node.0.shape node.0.parents (law.well_formed q node.0 node.1)) ∙ sym node.1))
      (λ dead.
      let gone : is_live whole q ≡ false = not_true (is_live whole q) (λ h.
      let old = lived cut law' i can' q h in
      ⊎_elim (λ live. no (sym dead ∙ live)) (λ e. old.1 (e ∙ sym next_is)) (old_or_n g law i bound can key q old.0)) in
      unnamed whole gone ∙ sym (unnamed g dead))
    where
      unnamed : (h : Graph) → is_live h q ≡ false → node_at h q ≡ None
      unnamed h dead = cases_of (node_at h q) (λ e. e) (λ y e. absurd (no (sym dead ∙ ap is_some e)))

  pub undone : whole ≡ record g { births = g.births + 1 }
  undone =
      let same : whole.at ≡ g.at = fun_ext (at_same g whole (λ q.
      by_cases (same_node q x) (λ t. let e = same_node-equal q x t in ap (node_at whole) e ∙ index_same ∙ sym (ap (node_at g) e))
      (λ t. other_same q (same_node-other q x t)))) in
      λ j. record { at = same j; births = g.births + 1; most = g.most; most_bounds = g.most_bounds }

pub merges_undo_splits : MergesUndoSplits
merges_undo_splits g g' i m bound law unrefused is =
    ap (λ (h : Graph). merge h i) is.after ∙ undone g law i bound (can_split g i bound unrefused) m.key is.key_free
