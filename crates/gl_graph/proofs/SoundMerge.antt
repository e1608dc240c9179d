-- Two intervals are merged in the slab: the second one is removed, its index is cut, and records move. What the slab shows then, and that it is sound.
use Rattle.gl_graph.proofs.Words.{ap, AreSound, arith, bounds_in, children_of, ContainsKey, due, false, first_parent, get, Graph, graph_of, Holds}
use Rattle.gl_graph.proofs.Words.{if◌then◌else◌, Index, indexes_of, interval_of, intervals_in, is_index_shape, is_inner_shape, is_live, is_some}
use Rattle.gl_graph.proofs.Words.{IsLawfulGraph, length, Limits, List, LosesCut, nat_le, nat_tests, no, Node, node_at, node_of, node_passed, NodeId, None}
use Rattle.gl_graph.proofs.Words.{option_map, position, record_count, refl, same_node, same_node-differ, seen, shape_in, shape_in_body, shape_of, Slab}
use Rattle.gl_graph.proofs.Words.{slab_len, Some, some_is, Stored, subst, sym, true, Updates, vertex_of, with_node, without_node, ℕ, ◌&&◌, ◌+◌, ◌<◌, ◌||◌}
use Rattle.gl_graph.proofs.Words.{◌∙◌, ◌≡◌}
use Rattle.std.specs.List.{remove}
use Rattle.gl_graph.specs.Splits.{file_of, merge, merged_shape, next_interval, place_among, reshaped}
use Rattle.gl_graph.proofs.Around.{index, shape_is, x_live}
use Rattle.gl_graph.proofs.Cutting.{carried, Cuts, due_same}
use Rattle.gl_graph.proofs.Dues.{child_test, count_left, record_test}
use Rattle.gl_graph.proofs.Held.{IsStored, live_held, node_removed, node_stored, node_written, sound_held}
use Rattle.gl_graph.proofs.MergeGraph.{CanMerge, high, j_listed, j_node, lived, merge_key, merge_lawful, merge_other, merge_recut, stays, was_left, x_not_j}
use Rattle.gl_graph.proofs.Settled.{reshaped_is}
use Rattle.gl_graph.proofs.Tally.{ones}

module _ {limits : Limits} {old : Slab Stored} {births : ℕ} {g : Graph} (h : Holds limits old births g (due g)) (law : IsLawfulGraph g)
    (i : NodeId) (can : CanMerge g i) (at : NodeId) (is_x : at ≡ first_parent g i) (next : NodeId) (is_j : next ≡ next_interval g i) where
  abbrev x : NodeId
  x = first_parent g i

  abbrev bounds : List ℕ
  bounds = bounds_in (shape_of g x)

  abbrev intervals : List NodeId
  intervals = intervals_in (shape_of g x)

  abbrev file : NodeId
  file = file_of (shape_of g x)

  abbrev place : ℕ
  place = place_among g i

  abbrev j : NodeId
  j = next_interval g i

  pub index_is : is_index_shape (shape_of g at) ≡ true
  index_is = ap (λ y. is_index_shape (shape_of g y)) is_x ∙ index g law i can.kind

  slot : IsStored old g (due g) x
  slot = live_held h x (x_live g law i can.kind)

  body_is : shape_in_body slot.stored.body ≡ Index file bounds intervals
  body_is = some_is (sym (ap shape_in slot.node) ∙ shape_is g law i can.kind)

  j_live : is_live g j ≡ true
  j_live = ap is_some (j_node g law i can)

  pub next_contained : ContainsKey old next.key
  next_contained = ap is_some (ap (λ (y : NodeId). get old y.key) is_j ∙ (live_held h j j_live).there)

  module _ {mid : Slab Stored} (u : Updates old mid next.key None) (len : slab_len mid + 1 ≡ slab_len old) where
    u' : Updates old mid j.key None
    u' = subst (λ (y : NodeId). Updates old mid y.key None) is_j u

    index_there : get mid x.key ≡ Some slot.stored
    index_there =
        u'.others x.key (λ e. x_not_j g law i can (law.keys_differ x j (x_live g law i can.kind) j_live e)) ∙ slot.there

    pub index_contained : ContainsKey mid at.key
    index_contained = ap is_some (ap (λ (y : NodeId). get mid y.key) is_x ∙ index_there)

    -- whatever is stored under the index's key has the bound and the interval
    stored_shape : (w : Stored) → get mid at.key ≡ Some w → shape_in_body w.body ≡ Index file bounds intervals
    stored_shape w e =
        ap (λ (z : Stored). shape_in_body z.body) (some_is (sym e ∙ ap (λ (y : NodeId). get mid y.key) is_x ∙ index_there)) ∙ body_is

    pub bound_there : (w : Stored) → get mid at.key ≡ Some w → place < length (bounds_in (Some (shape_in_body w.body)))
    bound_there w e = subst (λ s. place < length (bounds_in (Some s))) (sym (stored_shape w e)) can.next

    pub interval_there : (w : Stored) → get mid at.key ≡ Some w → place + 1 < length (intervals_in (Some (shape_in_body w.body)))
    interval_there w e = subst (λ s. place + 1 < length (intervals_in (Some s))) (sym (stored_shape w e)) (high g law i can)

    abbrev less : Graph
    less = without_node g j

    abbrev bounds' : List ℕ
    bounds' = remove bounds place

    abbrev intervals' : List NodeId
    intervals' = remove intervals (place + 1)

    left : Holds limits mid births less (due g)
    left = node_removed h law j j_live u' len

    not_index : (m : NodeId) → is_inner_shape (shape_of g m) ≡ true → same_node m x ≡ false
    not_index m inner =
        same_node-differ m x (λ e. no (sym (ap is_inner_shape (shape_is g law i can.kind)) ∙ sym (ap (λ y. is_inner_shape (shape_of g y)) e) ∙ inner))

    any_key : (k : ℕ) → nat_le 0 k ≡ true
    any_key k = grind (arith, nat_tests)

    -- all keys of the next interval have this one
    cuts : Cuts g less x file (merged_shape place) bounds bounds' intervals intervals' j i 0
    cuts = record {
      law = law;
      shape = shape_is g law i can.kind;
      there = stays g law i can x (x_live g law i can.kind) (x_not_j g law i can);
      changed = refl;
      recut = merge_recut g law i can;
      law_after = merge_lawful g law i can;
      listed = j_listed g law i can;
      key = λ k. merge_key g law i can k
          ∙ sym (ap (λ b. if b && same_node (interval_of g x k) j then i else interval_of g x k) (any_key k));
      other = merge_other g law i can;
      back = λ q w e rec.
          let l = was_left g law i can q (ap is_some e) in
          sym (stays g law i can q l.0 l.1) ∙ e;
      same = λ q live lives. stays g law i can q live (lived g law i can q lives).1;
      children = λ m inner.
          let all : children_of g m ≡ children_of less m + ones (child_test m (node_at g j)) = count_left g law (child_test m) refl j j_live in
          let none : ones (child_test m (node_at g j)) ≡ 0 = ap (λ o. ones (child_test m o)) (j_node g law i can)
          ∙ ap (λ b. ones (b || false)) (not_index m inner) in
          omega arith;
      records = λ m is_file.
          let all : record_count g m ≡ record_count less m + ones (record_test m (node_at g j)) = count_left g law (record_test m) refl j j_live in
          let none : ones (record_test m (node_at g j)) ≡ 0 = ap (λ o. ones (record_test m o)) (j_node g law i can) in
          omega arith;
    }

    module _ {cut : Slab Stored} (its_place : ℕ) (place_is : its_place ≡ place)
        (write : (w : Stored) → get mid at.key ≡ Some w → LosesCut mid cut at.key its_place w) (len' : slab_len cut ≡ slab_len mid) where
      write' : LosesCut mid cut x.key place slot.stored
      write' =
          subst (λ p. LosesCut mid cut x.key p slot.stored) place_is
          (subst (λ (y : NodeId). (w : Stored) → get mid y.key ≡ Some w → LosesCut mid cut y.key its_place w) is_x write slot.stored index_there)

      abbrev written : Stored
      written = record slot.stored { body = write'.body }

      abbrev was : Node
      was = node_of x.key (vertex_of slot.stored)

      node_now : node_of x.key (vertex_of written) ≡ record was { shape = merged_shape place was.shape }
      node_now = let s = write'.shape in let p = write'.parents in λ k. record { key = x.key; shape = s k; parents = p k }

      held_cut : Holds limits cut births (reshaped less x (merged_shape place)) (due g)
      held_cut =
          subst (λ (g' : Graph). Holds limits cut births g' (due g))
          (ap (with_node less x.birth) node_now ∙ reshaped_is less x (merged_shape place) was (node_stored left x slot.stored index_there slot.born))
          (node_written left x slot.stored written index_there slot.born write'.updates refl len' write'.beside)

      module _ (new : Slab Stored) (col : ℕ) (found : position (λ listed. same_node listed at) (indexes_of g (file_of (shape_of g at))) ≡ Some col)
          (moves : (k : ℕ) → get new k ≡ option_map (node_passed col next 0 i) (get cut k)) (len'' : slab_len new ≡ slab_len cut) where
        held_new : Holds limits new births (merge g i) (due g)
        held_new =
            carried cuts col (subst (λ y. position (λ listed. same_node listed y) (indexes_of g (file_of (shape_of g y))) ≡ Some col) is_x found)
            held_cut new (subst (λ m. (k : ℕ) → get new k ≡ option_map (node_passed col m 0 i) (get cut k)) is_j moves) len''

        pub merge_sound : AreSound limits new births
        merge_sound = sound_held held_new (merge_lawful g law i can) (λ q live. due_same cuts q (lived g law i can q live).0 live)

        pub merge_graph : graph_of (seen limits new births) ≡ merge g i
        merge_graph = held_new.graph
