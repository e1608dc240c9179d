-- An interval is split in the slab: the new one is stored, its index is cut, and records move. What the slab shows then, and that it is sound.
use Rattle.gl_graph.proofs.Words.{[], ap, ap₂, AreSound, arith, born_node, bounds_in, ContainsKey, due, due_as, false, first_parent, get, Global, Graph}
use Rattle.gl_graph.proofs.Words.{graph_of, Holds, Index, indexes_of, Interval, intervals_in, is_index_shape, is_inner_shape, is_record_shape, is_some}
use Rattle.gl_graph.proofs.Words.{IsFreeKey, IsLawfulGraph, length, Limits, List, list_any, no, Node, node_at, node_is, node_of, node_passed, NodeId, None}
use Rattle.gl_graph.proofs.Words.{Nothing, option_map, position, refl, same_node, same_node-differ, same_node-equal, same_node-from_equal, seen, shape_in}
use Rattle.gl_graph.proofs.Words.{shape_in_body, shape_of, Slab, slab_len, Some, some_is, split as by_cases, Stored, subst, sym, Updates, Vec, vertex_of}
use Rattle.gl_graph.proofs.Words.{with_node, ℕ, ⊎_elim, ◌+◌, ◌||◌, ◌∙◌, ◌∷◌, ◌≡◌, ◌≤◌}
use Rattle.gl_graph.proofs.Words.{body_with_cuts, true}
use Rattle.std.specs.List.{insert}
use Rattle.gl_graph.specs.declared.node.Body.TheVariants as body
use Rattle.gl_graph.specs.Splits.{file_of, IsSplit, place_among, reshaped, settled, split_shape}
use Rattle.gl_graph.proofs.Around.{at_place, index, listed, place_low, shape_is, x_live}
use Rattle.gl_graph.proofs.Born.{old_same}
use Rattle.gl_graph.proofs.Cutting.{carried, Cuts, due_same}
use Rattle.gl_graph.proofs.Dues.{children_born, records_born}
use Rattle.gl_graph.proofs.Held.{births_held, IsStored, key_free, live_held, node_added, node_stored, node_written, put, put_here, put_other, sound_held}
use Rattle.gl_graph.proofs.Passed.{cuts_beside, cuts_parents, cuts_shape}
use Rattle.gl_graph.proofs.Settled.{reshaped_is}
use Rattle.gl_graph.proofs.SplitGraph.{CanSplit, live_is, new_shape, new_there, old_or_n, split_key, split_lawful, split_other, split_recut}
use Rattle.gl_graph.proofs.Tally.{ones}

module _ {limits : Limits} {old : Slab Stored} {births : ℕ} {g : Graph} (h : Holds limits old births g (due g)) (law : IsLawfulGraph g)
    (i : NodeId) (bound : ℕ) (can : CanSplit g i bound) (at : NodeId) (is_x : at ≡ first_parent g i) where
  abbrev x : NodeId
  x = first_parent g i

  abbrev bounds : List ℕ
  bounds = bounds_in (shape_of g x)

  abbrev intervals : List NodeId
  intervals = intervals_in (shape_of g x)

  abbrev file : NodeId
  file = file_of (shape_of g x)

  abbrev place : ℕ
  place = place_among g i

  pub index_is : is_index_shape (shape_of g at) ≡ true
  index_is = ap (λ y. is_index_shape (shape_of g y)) is_x ∙ index g law i can.kind

  -- the places of the new bound and of the new interval
  pub place_of_bound : place ≤ length (bounds_in (shape_of g at))
  place_of_bound = subst (λ y. place ≤ length (bounds_in (shape_of g y))) (sym is_x) (place_low g law i can.kind)

  pub place_of_interval : place + 1 ≤ length (intervals_in (shape_of g at))
  place_of_interval =
      let low = (at_place g law i can.kind).0 in
      let all = ap (λ y. length (intervals_in (shape_of g y))) is_x in
      omega arith

  slot : IsStored old g (due g) x
  slot = live_held h x (x_live g law i can.kind)

  body_is : shape_in_body slot.stored.body ≡ Index file bounds intervals
  body_is = some_is (sym (ap shape_in slot.node) ∙ shape_is g law i can.kind)

  module _ {mid : Slab Stored} (key : ℕ) (free : get old key ≡ None)
      (u : Updates old mid key (Some (record { birth = births + 1; body = body.Interval (at ∷ []) }))) (len : slab_len mid ≡ slab_len old + 1) where
    abbrev fresh : Stored
    fresh = record { birth = births + 1; body = body.Interval (x ∷ []) }

    u' : Updates old mid key (Some fresh)
    u' = subst (λ (y : NodeId). Updates old mid key (Some (record { birth = births + 1; body = body.Interval (y ∷ []) }))) is_x u

    free_key : IsFreeKey g key
    free_key = key_free h law key fresh free u' refl len

    index_there : get mid x.key ≡ Some slot.stored
    index_there = u'.others x.key (free_key x (x_live g law i can.kind)) ∙ slot.there

    pub index_contained : ContainsKey mid at.key
    index_contained = ap is_some (ap (λ (y : NodeId). get mid y.key) is_x ∙ index_there)

    abbrev n : NodeId
    n = record { key = key; birth = g.births + 1 }

    abbrev node : Node
    node = record { key = key; shape = Interval; parents = x ∷ [] }

    abbrev grown : Graph
    grown = born_node g node

    abbrev bounds' : List ℕ
    bounds' = insert bounds place bound

    abbrev intervals' : List NodeId
    intervals' = insert intervals (place + 1) n

    added : Holds limits mid (births + 1) grown (put n Nothing (due g))
    added = node_added h law key fresh free u' refl len

    not_index : (m : NodeId) → is_inner_shape (shape_of g m) ≡ true → same_node m x ≡ false
    not_index m inner =
        same_node-differ m x (λ e. no (sym (ap is_inner_shape (shape_is g law i can.kind)) ∙ sym (ap (λ y. is_inner_shape (shape_of g y)) e) ∙ inner))

    -- the keys of the interval from the bound on have the new one
    cuts : Cuts g grown x file (split_shape place bound n) bounds bounds' intervals intervals' i n bound
    cuts = record {
      law = law;
      shape = shape_is g law i can.kind;
      there = old_same g law (node ∷ []) x (x_live g law i can.kind);
      changed = refl;
      recut = split_recut g law i bound can key;
      law_after = split_lawful g law i bound can key free_key;
      listed = listed g law i can.kind;
      key = split_key g law i bound can key;
      other = split_other g law i bound can key;
      back = λ q w e rec. ⊎_elim (λ live. sym (old_same g law (node ∷ []) q live) ∙ e)
          (λ is_new. absurd (no (ap (λ (z : Node). is_record_shape (Some z.shape))
          (some_is (sym (new_there g law i bound can key) ∙ ap (node_at grown) (sym is_new) ∙ e)) ∙ rec)))
          (old_or_n g law i bound can key q (live_is g law i bound can key q ∙ ap is_some e));
      same = λ q live lives. old_same g law (node ∷ []) q live;
      children = λ m inner.
          let all = children_born g law node (λ f. refl) m in
          let none : ones (list_any (same_node m) (x ∷ [])) ≡ 0 = ap (λ b. ones (b || false)) (not_index m inner) in
          omega arith;
      records = λ m is_file. let all = records_born g law node (λ f. refl) m in omega arith;
    }

    module _ {cut : Slab Stored} (fresh_bounds : Vec ℕ Global) (bounds_are : fresh_bounds.items ≡ insert (bounds_in (shape_of g at)) place bound)
        (to : NodeId) (to_key : to.key ≡ key) (to_birth : to.birth ≡ births + 1)
        (fresh_intervals : Vec NodeId Global) (intervals_are : fresh_intervals.items ≡ insert (intervals_in (shape_of g at)) (place + 1) to)
        (write : (w : Stored) → get mid at.key ≡ Some w
        → Updates mid cut at.key (Some (record w { body = body_with_cuts w.body fresh_bounds fresh_intervals }))) (len' : slab_len cut ≡ slab_len mid) where
      is_n : to ≡ n
      is_n = node_is to n to_key (to_birth ∙ ap (λ b. b + 1) (sym (births_held h)))

      abbrev written : Stored
      written = record slot.stored { body = body_with_cuts slot.stored.body fresh_bounds fresh_intervals }

      write' : Updates mid cut x.key (Some written)
      write' =
          subst (λ (y : NodeId). (w : Stored) → get mid y.key ≡ Some w
          → Updates mid cut y.key (Some (record w { body = body_with_cuts w.body fresh_bounds fresh_intervals }))) is_x write
          slot.stored index_there

      abbrev was : Node
      was = node_of x.key (vertex_of slot.stored)

      shape_now : shape_in_body written.body ≡ split_shape place bound n (shape_in_body slot.stored.body)
      shape_now =
          cuts_shape slot.stored.body fresh_bounds fresh_intervals file bounds intervals body_is
          ∙ ap₂ (λ bs is. Index file bs is) (bounds_are ∙ ap (λ y. insert (bounds_in (shape_of g y)) place bound) is_x)
          (intervals_are ∙ ap₂ (λ y m. insert (intervals_in (shape_of g y)) (place + 1) m) is_x is_n)
          ∙ sym (ap (split_shape place bound n) body_is)

      node_now : node_of x.key (vertex_of written) ≡ record was { shape = split_shape place bound n was.shape }
      node_now =
          let s = shape_now in
          let p = cuts_parents slot.stored.body fresh_bounds fresh_intervals in
          λ j. record { key = x.key; shape = s j; parents = p j }

      held_cut : Holds limits cut (births + 1) (reshaped grown x (split_shape place bound n)) (put n Nothing (due g))
      held_cut =
          subst (λ (g' : Graph). Holds limits cut (births + 1) g' (put n Nothing (due g)))
          (ap (with_node grown x.birth) node_now
          ∙ reshaped_is grown x (split_shape place bound n) was (node_stored added x slot.stored index_there slot.born))
          (node_written added x slot.stored written index_there slot.born write' refl len' (cuts_beside slot.stored.body fresh_bounds fresh_intervals))

      module _ (new : Slab Stored) (col : ℕ) (found : position (λ listed. same_node listed at) (indexes_of g (file_of (shape_of g at))) ≡ Some col)
          (moves : (k : ℕ) → get new k ≡ option_map (node_passed col i bound to) (get cut k)) (len'' : slab_len new ≡ slab_len cut) where
        held_new : Holds limits new (births + 1) (settled (reshaped grown x (split_shape place bound n)) file) (put n Nothing (due g))
        held_new =
            carried cuts col (subst (λ y. position (λ listed. same_node listed y) (indexes_of g (file_of (shape_of g y))) ≡ Some col) is_x found)
            held_cut new (subst (λ m. (k : ℕ) → get new k ≡ option_map (node_passed col i bound m) (get cut k)) is_n moves) len''

        pub split_sound : AreSound limits new (births + 1)
        split_sound = sound_held held_new (split_lawful g law i bound can key free_key) (λ q live.
            by_cases (same_node q n)
            (λ t.
            let e = same_node-equal q n t in
            ap (put n Nothing (due g)) e ∙ put_here n Nothing (due g)
            ∙ sym (ap (λ y. due_as (settled (reshaped grown x (split_shape place bound n)) file) y
            (shape_of (settled (reshaped grown x (split_shape place bound n)) file) y)) e
            ∙ ap (due_as (settled (reshaped grown x (split_shape place bound n)) file) n) (new_shape g law i bound can key)))
            (λ t.
            put_other n Nothing (due g) q t
            ∙ due_same cuts q (⊎_elim (λ lives. lives) (λ e. absurd (no (sym t ∙ same_node-from_equal q n e))) (old_or_n g law i bound can key q live)) live))

        pub split_made : IsSplit g (graph_of (seen limits new (births + 1))) i to bound
        split_made =
            subst (λ m. IsSplit g (graph_of (seen limits new (births + 1))) i m bound) (sym is_n)
            (record { key_free = free_key; birth = refl; after = held_new.graph })
