-- An index is born with its intervals: what is stored beside the nodes is due again after its file lists it and its parents count it.
use Rattle.gl_graph.proofs.Words.{[], ap, ap₂, are_apart, AreBornApart, AreBornWithin, AreInnerParents, AreIntervalsBorn, AreRecounted, AreSound, arith, Beside}
use Rattle.gl_graph.proofs.Words.{beside_in_body, Body, body_with_indexes, body_with_intervals, Bool, born_index, born_node, born_nodes, both, cases_of}
use Rattle.gl_graph.proofs.Words.{children_of, ContainsKey, count_by, due, due_as, false, fun_ext, get, Global, Graph, graph_of, Holds, ids_of, if◌then◌else◌}
use Rattle.gl_graph.proofs.Words.{Index, indexes_of, Inside, Interval, interval_nodes, is_inner_shape, is_live, is_some, IsFreeKey, IsIndexBorn, IsLawfulGraph}
use Rattle.gl_graph.proofs.Words.{IsSound, length, Limits, limits_of, List, list_any, Lists, new_index, no, Node, node_at, node_count, node_of, NodeId, None}
use Rattle.gl_graph.proofs.Words.{none_some, not_true, Nothing, Option, or_elim, parents_in_body, record_count, refl, same_node}
use Rattle.gl_graph.proofs.Words.{same_node-equal, same_number, seen, shape_in, shape_in_body, shape_of, Slab, slab_len, SmallVec, Some, some_is, split, Stored}
use Rattle.gl_graph.proofs.Words.{subst, suc, sym, true, Updates, Vec, vertex_of, View, view_of, with_node, zero, ℕ, ⊎_elim, ◌++◌, ◌+◌, ◌<◌, ◌==◌, ◌^◌, ◌||◌}
use Rattle.gl_graph.proofs.Words.{◌∙◌, ◌∷◌, ◌≡◌, ◌≢◌}
use Rattle.gl_graph.proofs.Words.{bounds_in, count_by-le-length, interval_of, interval_place}
use Rattle.gl_graph.proofs.Words.{intervals_in, is_index_of_shape, is_record_shape, IsRising, nat_le}
use Rattle.gl_graph.proofs.Words.{no_node, same_node-refl, slice_index_or}
use Rattle.gl_graph.specs.declared.node.Body.TheVariants as body
use Rattle.gl_graph.proofs.Born.{born_apart, born_plain, first_written, old_below, old_same, old_or_new, place_in, new_id, new_not_old}
use Rattle.gl_graph.proofs.Counted.{AreKept, are_kept, counted_in, counts_written}
use Rattle.gl_graph.proofs.Counts.{count_cons, count_grown, count_ids}
use Rattle.gl_graph.proofs.Dues.{child_test, record_test, inner_due, file_due, due_stays, children_fit, one_more}
use Rattle.gl_graph.proofs.Grow.{count_intervals}
use Rattle.gl_graph.proofs.Held.{put, put_here, put_other, IsStored, live_held, births_held, within_held, beside_written, node_added, node_written, key_free}
use Rattle.gl_graph.proofs.Held.{recounted, sound_held}
use Rattle.gl_graph.proofs.KindRules.{PlainFrames, parents_same, plain_live, inner_plain, file_plain}
use Rattle.gl_graph.proofs.Look.{all_at, listed_at, live_node}
use Rattle.gl_graph.proofs.NewIndex.{keys_of_intervals, interval_node, others, file_index, free_born, index_there, keys_are}
use Rattle.gl_graph.proofs.NewNodes.{places_apart}
use Rattle.gl_graph.proofs.SameParents.{indexes_shown}
use Rattle.gl_graph.proofs.Slots.{inserted_apart, inserted_within}
use Rattle.gl_graph.proofs.Tally.{ones, count_borns}
use Rattle.gl_graph.specs.Keying.{AreBodiesFor, AreKeyed, CanBeKeyed, interval_in_body}
use Rattle.gl_graph.specs.Over.{IsIndexOver, keyed, over_refusal}
use Rattle.gl_graph.proofs.OverGraph.{IsRoomyOver, keys_many, lawful_after, live_after, over_unrefused, seen_after}
use Rattle.gl_graph.proofs.OverStored.{bodies_still, named_live, named_record, records_ready}
use Rattle.gl_graph.proofs.OverSound.{due_keyed, keyed_held}

-- an index without intervals gets some
record HasIntervals (b was : Body) (f : NodeId) (bs : List ℕ) (is : List NodeId) : Type 0 where
  pub shape : shape_in_body b ≡ Index f bs is
  pub parents : parents_in_body b ≡ parents_in_body was
  pub beside : beside_in_body b ≡ beside_in_body was

intervals_written : (b : Body) (fresh : Vec NodeId Global) (f : NodeId) (bs : List ℕ) → shape_in_body b ≡ Index f bs []
    → HasIntervals (body_with_intervals b fresh) b f bs fresh.items
intervals_written (body.Index kept above) fresh f bs e = grind arith
intervals_written _ fresh f bs e = cc

indexes_written : (b : Body) (fresh : SmallVec NodeId) (is : List NodeId) (k : ℕ) → beside_in_body b ≡ Lists is k
    → beside_in_body (body_with_indexes b fresh) ≡ Lists fresh.items k
indexes_written (body.File kept above) fresh is k e = cc
indexes_written _ fresh is k e = cc

dead_due : (g : Graph) (n : NodeId) → is_live g n ≡ false → due g n ≡ Nothing
dead_due g n dead = cases_of (node_at g n) (λ e. ap (λ o. due_as g n (shape_in o)) e) (λ x e. absurd (no (sym dead ∙ ap is_some e)))

-- a test that no interval of the index passes
none_among : (t : Node → Bool) (index : NodeId) (keys : List ℕ)
    → ((k : ℕ) → t (record { key = k; shape = Interval; parents = index ∷ [] }) ≡ false) → count_by t (interval_nodes index keys) ≡ 0
none_among t index [] none = refl
none_among t index (k ∷ keys) none = grind (arith, none_among t index keys none)

-- other room is not seen
pub roomy_sound : (i : Inside) → IsSound i → (s : Slab Stored) → s ≡ record i.nodes { capacity = s.capacity } → AreSound (limits_of i) s i.births
roomy_sound i sound s e = grind arith

pub roomy_view : (i : Inside) (v : View) → view_of i ≡ v → (s : Slab Stored) → s ≡ record i.nodes { capacity = s.capacity }
    → seen (limits_of i) s i.births ≡ v
roomy_view i v view s e = ap (λ (n : Slab Stored). seen (limits_of i) n i.births) e ∙ view

pub roomy : (i : Inside) (sound : IsSound i) (v : View) (view : view_of i ≡ v) (s : Slab Stored) → s ≡ record i.nodes { capacity = s.capacity }
    → Holds (limits_of i) s i.births (graph_of v) (due (graph_of v))
roomy i sound v view s e = grind arith

-- an index that no test refuses can be numbered, with its intervals
pub births_left : {limits : Limits} {s : Slab Stored} {births : ℕ} {g : Graph} {beside : NodeId → Beside} → Holds limits s births g beside
    → IsLawfulGraph g → (ps : List NodeId) (f : NodeId) (bs : List ℕ) (rs : List NodeId) (ks : List ℕ) → over_refusal g ps f bs rs ks ≡ None
    → births + 1 + (length bs + 1) < 2 ^ 64
births_left {g = g} h law ps f bs rs ks free =
    let may = over_unrefused g ps f bs rs ks free in let low = may.births in let room = may.room in let same = births_held h in omega arith

module _ {limits : Limits} {old mid : Slab Stored} {births : ℕ} {g : Graph} (h : Holds limits old births g (due g)) (law : IsLawfulGraph g)
    (key : ℕ) (x : Stored) (free : get old key ≡ None) (u : Updates old mid key (Some x)) (next : x.birth ≡ births + 1)
    (len : slab_len mid ≡ slab_len old + 1) where
  abbrev pub id : NodeId
  id = record { key = key; birth = g.births + 1 }

  births_are : g.births ≡ births
  births_are = births_held h

  pub index_within : AreBornWithin mid (births + 1)
  index_within = inserted_within limits old mid births key x h.apart (within_held h law) free u next

  pub index_apart : AreBornApart mid
  index_apart = inserted_apart limits old mid births key x h.apart (within_held h law) free u next

  module _ (file : NodeId) (ps : List NodeId) (bounds : List ℕ) (shape : shape_in_body x.body ≡ Index file bounds []) (under : parents_in_body x.body ≡ ps)
      (rs : List NodeId) (ks : List ℕ) (may : IsRoomyOver g ps file bounds rs ks) (grown : Slab Stored) (ids : List NodeId)
      (born : AreIntervalsBorn mid grown (record { key = key; birth = births + 1 }) (length bounds + 1) ids) where
    born' : AreIntervalsBorn mid grown id (length bounds + 1) ids
    born' = subst (λ b. AreIntervalsBorn mid grown (record { key = key; birth = b + 1 }) (length bounds + 1) ids) (sym births_are) born

    abbrev keys : List ℕ
    keys = born'.keys

    abbrev index : Node
    index = new_index id ps file bounds keys

    abbrev ns : List Node
    ns = index ∷ interval_nodes id keys

    abbrev after : Graph
    after = born_index g key ps file bounds keys

    abbrev total : ℕ
    total = births + 1 + (length bounds + 1)

    not_live : is_live g id ≡ false
    not_live = not_true _ (λ t. let low = old_below g law ns id t in absurd (omega arith))

    nothing : (b : Body) → shape_in_body b ≡ Index file bounds [] → beside_in_body b ≡ Nothing
    nothing (body.Inner children above) e = cc
    nothing (body.File kept above) e = cc
    nothing _ e = refl

    -- nothing is stored beside the index
    unchanged : (m : NodeId) → put id (beside_in_body x.body) (due g) m ≡ due g m
    unchanged m =
        split (same_node m id) (λ t. ap (λ b. if b then beside_in_body x.body else due g m) t ∙ nothing x.body shape
        ∙ sym (dead_due g m (ap (is_live g) (same_node-equal m id t) ∙ not_live))) (put_other id (beside_in_body x.body) (due g) m)

    added : Holds limits mid (births + 1) (born_node g (node_of key (vertex_of x))) (due g)
    added = subst (Holds limits mid (births + 1) (born_node g (node_of key (vertex_of x)))) (fun_ext unchanged) (node_added h law key x free u next len)

    -- the graph before the intervals are listed
    abbrev unlisted : Graph
    unlisted = born_nodes g (node_of key (vertex_of x) ∷ interval_nodes id keys)

    graph_born : graph_of (seen limits grown total) ≡ unlisted
    graph_born =
        let c = count_intervals id keys in
        let m = born'.many in
        let b = births_are in
        let count : total ≡ g.births + 1 + length (interval_nodes id keys) = omega arith in
        ap (λ k. graph_of (seen limits grown k)) count ∙ born'.grown.graph limits
        ∙ ap (λ (g' : Graph). born_nodes g' (interval_nodes id keys)) (ap (λ k. graph_of (seen limits mid (k + 1))) births_are ∙ added.graph)

    free_key : (k : ℕ) → get old k ≡ None → IsFreeKey g k
    free_key k e n live same = none_some (sym e ∙ ap (get old) (sym same) ∙ (live_held h n live).there)

    free_keys : (k : ℕ) → list_any (λ y. y == k) (key ∷ keys) ≡ true → IsFreeKey g k
    free_keys k e =
        or_elim (key == k) (list_any (λ y. y == k) keys) e (λ here. free_key k (ap (get old) (sym (same_number key k here)) ∙ free))
        (λ there. free_key k (by k (born'.grown.vacant k (ap (list_any (λ y. y == k)) (keys_of_intervals id keys) ∙ there)) (get old k) refl))
      where
        by : (k' : ℕ) → get mid k' ≡ None → (o : Option Stored) → get old k' ≡ o → get old k' ≡ None
        by k' v None e' = e'
        by k' v (Some y) e' = absurd (none_some (sym v ∙ u.others k' (λ same. none_some (sym free ∙ ap (get old) (sym same) ∙ e')) ∙ e'))

    apart_keys : are_apart (key ∷ keys) ≡ true
    apart_keys = grind (arith, both, none_some, keys_of_intervals)

    -- no two nodes have one key
    keys_differ : (a b : NodeId) → is_live after a ≡ true → is_live after b ≡ true → a.key ≡ b.key → a ≡ b
    keys_differ = born_apart g law ns (free_born g law key ps file bounds keys free_keys)
        (places_apart ns (ap are_apart (keys_are g law key ps file bounds keys) ∙ apart_keys))

    same_frames : PlainFrames g after
    same_frames = born_plain g law ns

    held_born : Holds limits grown total unlisted (due g)
    held_born = record {
      graph = graph_born;
      apart = born'.grown.apart;
      counted = (let all = count_grown g law (node_of key (vertex_of x) ∷ interval_nodes id keys) in
          let was = h.counted in
          let grew = born'.grown.len in
          let same : slab_len grown ≡ node_count unlisted = omega arith in
          same);
      kept = λ k y e. by k y e (get mid k) refl;
    }
      where
        by : (k : ℕ) (y : Stored) → get grown k ≡ Some y → (o : Option Stored) → get mid k ≡ o
            → beside_in_body y.body ≡ due g (record { key = k; birth = y.birth })
        by k y e (Some z) there = let same = some_is (sym (born'.grown.stays k z there) ∙ e) in
            subst (λ (w : Stored). beside_in_body w.body ≡ due g (record { key = k; birth = w.birth })) same (added.kept k z there)
        by k y e None there =
            let ne : k ≢ key = λ same. none_some (sym there ∙ ap (get mid) same ∙ u.changed) in
            let dead : is_live g (record { key = k; birth = y.birth }) ≡ false =
            not_true _ (λ t. none_some (sym there ∙ u.others k ne ∙ (live_held h (record { key = k; birth = y.birth }) t).there)) in
            ⊎_elim (λ (was : get mid k ≡ Some y). absurd (none_some (sym there ∙ was)))
            (λ (new : shape_in_body y.body ≡ Interval). no_counts y.body new) (born'.grown.came k y e)
            ∙ sym (dead_due g (record { key = k; birth = y.birth }) dead)
          where
            no_counts : (b : Body) → shape_in_body b ≡ Interval → beside_in_body b ≡ Nothing
            no_counts (body.Interval up) e' = refl
            no_counts _ e' = cc

    live_file : is_live g file ≡ true
    live_file = plain_live g file (file_plain _ may.file)

    slot : IsStored old g (due g) file
    slot = live_held h file live_file

    file_apart : file.key ≢ key
    file_apart = key_free h law key x free u next len file live_file

    file_there : get grown file.key ≡ Some slot.stored
    file_there = born'.grown.stays file.key slot.stored (u.others file.key file_apart ∙ slot.there)

    index_there' : get grown key ≡ Some x
    index_there' = born'.grown.stays key x u.changed

    module _ (fresh : Vec NodeId Global) (fresh_is : fresh.items ≡ ids) (third : Slab Stored)
        (write : (y : Stored) → get grown key ≡ Some y → Updates grown third key (Some (record y { body = body_with_intervals y.body fresh })))
        (len3 : slab_len third ≡ slab_len grown) where
      u3 : Updates grown third key (Some (record x { body = body_with_intervals x.body fresh }))
      u3 = write x index_there'

      file_third : get third file.key ≡ Some slot.stored
      file_third = u3.others file.key file_apart ∙ file_there

      pub file_kept : ContainsKey third file.key
      file_kept = ap is_some file_third

      has : HasIntervals (body_with_intervals x.body fresh) x.body file bounds (ids_of (g.births + 1 + 1) keys)
      has = subst (HasIntervals (body_with_intervals x.body fresh) x.body file bounds) (fresh_is ∙ born'.ids_are)
          (intervals_written x.body fresh file bounds shape)

      graph_spanned : with_node unlisted (g.births + 1) (node_of key (vertex_of (record x { body = body_with_intervals x.body fresh }))) ≡ after
      graph_spanned =
          ap (with_node unlisted (g.births + 1)) (λ i. record { key = key; shape = has.shape i; parents = (has.parents ∙ under) i })
          ∙ first_written g (node_of key (vertex_of x)) index (interval_nodes id keys)

      spanned : Holds limits third total after (due g)
      spanned =
          subst (λ (g' : Graph). Holds limits third total g' (due g)) graph_spanned
          (node_written held_born id x (record x { body = body_with_intervals x.body fresh }) index_there'
          (next ∙ ap (λ b. b + 1) (sym births_are)) u3 refl len3 has.beside)

      module _ (list : SmallVec NodeId) (list_is : list.items ≡ indexes_of g file ++ record { key = key; birth = births + 1 } ∷ []) (fourth : Slab Stored)
          (rewrite : (y : Stored) → get third file.key ≡ Some y
          → Updates third fourth file.key (Some (record y { body = body_with_indexes y.body list }))) (len4 : slab_len fourth ≡ slab_len third) where
        abbrev now : NodeId → Beside
        now = put file (beside_in_body (body_with_indexes slot.stored.body list)) (due g)

        listed : Holds limits fourth total after now
        listed =
            beside_written spanned file slot.stored (record slot.stored { body = body_with_indexes slot.stored.body list })
            file_third slot.born (rewrite slot.stored file_third) refl len4 (indexes_shown file.key slot.stored.body list)

        still : (m : NodeId) → is_live g m ≡ true → same_node m file ≡ false → now m ≡ due g m
        still m live other = grind arith

        inner : AreInnerParents after 1 ps
        inner = parents_same g after same_frames 1 ps may.inner

        inner_other : (m : NodeId) → is_inner_shape (shape_of g m) ≡ true → same_node m file ≡ false
        inner_other m i = grind arith

        pub index_parents : AreKept (λ children. children + 1 < 2 ^ 64) fourth ps
        index_parents =
            are_kept listed keys_differ ps inner.inner inner.distinct (λ children. children + 1 < 2 ^ 64)
            (λ m listed' i. let was = all_at (λ q. is_inner_shape (shape_of g q)) ps m listed' may.inner.inner in
            subst (λ b. counted_in b + 1 < 2 ^ 64) (sym (still m (plain_live g m (inner_plain _ was)) (inner_other m was) ∙ inner_due g m was))
            (children_fit g law m))

        abbrev more : NodeId → ℕ → ℕ
        more m c = if list_any (same_node m) ps then c + 1 else c

        records_kept : (f : NodeId) → record_count after f ≡ record_count g f
        records_kept f =
            let all : record_count after f ≡ record_count g f + count_by (λ n. record_test f (Some n)) ns = count_borns (record_test f) refl g ns in
            let head : count_by (λ n. record_test f (Some n)) ns ≡ 0 + count_by (λ n. record_test f (Some n)) (interval_nodes id keys) = grind arith in
            let rest = none_among (λ n. record_test f (Some n)) id keys (λ k. refl) in
            omega arith

        children_more : (m : NodeId) → is_live g m ≡ true → children_of after m ≡ children_of g m + ones (list_any (same_node m) ps)
        children_more m live =
            let all : children_of after m ≡ children_of g m + count_by (λ n. child_test m (Some n)) ns = count_borns (child_test m) refl g ns in
            let head : count_by (λ n. child_test m (Some n)) ns
            ≡ ones (list_any (same_node m) ps) + count_by (λ n. child_test m (Some n)) (interval_nodes id keys) =
            count_cons (λ n. child_test m (Some n)) index (interval_nodes id keys) in
            let apart : same_node m id ≡ false = grind arith in
            let rest = none_among (λ n. child_test m (Some n)) id keys (λ k. ap (λ b. b || false) apart) in
            omega arith

        due_file : beside_in_body (body_with_indexes slot.stored.body list) ≡ due after file
        due_file =
            indexes_written slot.stored.body list (indexes_of g file) (record_count g file) (slot.kept ∙ file_due g file may.file)
            ∙ ap₂ Lists (grind (arith, births_are, file_index)) (sym (records_kept file))
            ∙ sym (file_due after file ((same_frames.shapes file (file_plain _ may.file)).file ∙ may.file))

        module _ (last : Slab Stored) (re : AreRecounted (λ children. children + 1) fourth last ps (length ps)) where
          settled : Holds limits last total after (λ m. recounted (more m) (now m))
          settled = counts_written listed keys_differ ps inner.inner inner.distinct (λ children. children + 1) last re

          index_born : IsIndexBorn g after (record { key = key; birth = births + 1 }) ps file bounds
          index_born = record {
            interval_keys = keys;
            intervals = born'.many;
            keys_apart = apart_keys;
            keys_free = free_keys;
            birth = ap (λ b. b + 1) (sym births_are);
            after = refl;
          }

          -- what is due beside each node before records are keyed
          due_grown : (m : NodeId) → is_live after m ≡ true → recounted (more m) (now m) ≡ due after m
          due_grown m live =
              split (same_node m file) (λ t.
              let same = same_node-equal m file t in
              let lists = indexes_written slot.stored.body list (indexes_of g file) (record_count g file) (slot.kept ∙ file_due g file may.file) in
              ap (λ q. recounted (more q) (now q)) same
              ∙ ap (recounted (more file)) (put_here file (beside_in_body (body_with_indexes slot.stored.body list)) (due g) ∙ lists) ∙ sym lists
              ∙ due_file ∙ ap (due after) (sym same)) (λ t. let y = live_node (node_at after m) live in
              old_or_new g law ns m y.0 y.1 (λ was. old_due m t (ap is_some was)) (λ k at is. new_due m t y.0 y.1 k at is))
            where
              old_due : (m : NodeId) → same_node m file ≡ false → is_live g m ≡ true → recounted (more m) (now m) ≡ due after m
              old_due m other live =
                  ap (recounted (more m)) (still m live other)
                  ∙ due_stays g after m (more m) (old_same g law ns m live)
                  (λ i. children_more m live ∙ sym (one_more (list_any (same_node m) ps) (children_of g m)))
                  (λ f. (others g law key ps file bounds keys m other, records_kept m))

              none_due : (m : NodeId) (y : Node) (k : ℕ) → place_in ns k ≡ Some y → due_as after m (Some y.shape) ≡ Nothing
              none_due m y zero at = ap (λ (z : Node). due_as after m (Some z.shape)) (sym (some_is at))
              none_due m y (suc k) at = ap (λ (z : Node). due_as after m (Some z.shape)) (interval_node id keys k y at)

              new_due : (m : NodeId) → same_node m file ≡ false → (y : Node) → node_at after m ≡ Some y → (k : ℕ)
                  → place_in ns k ≡ Some y → m ≡ new_id g law ns y k → recounted (more m) (now m) ≡ due after m
              new_due m other y there k at is =
                  let dead : is_live g m ≡ false = not_true _ (λ t. new_not_old g law ns k y (ap (is_live g) (sym is) ∙ t)) in
                  ap (recounted (more m)) (put_other file (beside_in_body (body_with_indexes slot.stored.body list)) (due g) m other ∙ dead_due g m dead)
                  ∙ sym (ap (λ o. due_as after m (shape_in o)) there ∙ none_due m y k at)

          is_id : record { key = key; birth = births + 1 } ≡ id
          is_id = λ i. record { key = key; birth = (sym births_are) i + 1 }

          there_index : node_at after id ≡ Some index
          there_index = index_there g law key ps file bounds keys

          abbrev beside_now : NodeId → Beside
          beside_now m = recounted (more m) (now m)

          index_stored : IsStored last after beside_now id
          index_stored = live_held settled id (ap is_some there_index)

          index_shape : shape_in_body index_stored.stored.body ≡ Index file bounds (ids_of (g.births + 1 + 1) keys)
          index_shape = some_is (sym (ap shape_in index_stored.node) ∙ ap shape_in there_index)

          same_named : (r : NodeId) → list_any (same_node r) rs ≡ true → node_at after r ≡ node_at g r
          same_named r named = old_same g law ns r (named_live g law file rs ks may.named r named)

          -- the records can be keyed by the bodies that were made of them
          pub can_be_keyed : {before : Slab Stored} {births' : ℕ} → Holds limits before births' g (due g) → (bodies : List Body)
              → AreBodiesFor before rs ks bodies (length rs) → CanBeKeyed last key rs ks bodies
          can_be_keyed held bodies are = record {
            index = record {
              x = index_stored.stored;
              there = index_stored.there;
              rising = subst (λ sh. IsRising (bounds_in (Some sh))) (sym index_shape) may.rise.1;
              each = λ k. subst (λ sh. interval_place (bounds_in (Some sh)) k < length (intervals_in (Some sh))) (sym index_shape) (fits k);
            };
            apart = λ place r at. key_free h law key x free u next len r (named_live g law file rs ks may.named r (listed_at rs place r at));
            stored = records_ready g law file rs ks may.named settled same_named may.file may.indexes;
            bodies_are = bodies_still g law file rs ks may.named held (λ r named. refl) settled same_named bodies (length rs) are;
            a_key_each = keys_many g file rs ks may.named;
          }
            where
              fits : (k : ℕ) → interval_place bounds k < length (ids_of (g.births + 1 + 1) keys)
              fits k =
                  let low = count_by-le-length (λ b. nat_le b k) bounds in
                  let many = ap (λ xs. length (ids_of (g.births + 1 + 1) xs)) (sym (keys_of_intervals id keys)) ∙ count_ids (g.births + 1 + 1)
                  (interval_nodes id keys) in
                  let intervals = count_intervals id keys in
                  let all = born'.many in
                  omega arith

          module _ (final : Slab Stored) (are : (y : Stored) → get last key ≡ Some y → AreKeyed last final (interval_in_body y.body) rs ks (length rs)) where
            intervals_are : (k : ℕ) → interval_in_body index_stored.stored.body k ≡ interval_of after id k
            intervals_are k =
                ap (λ sh. slice_index_or (intervals_in (Some sh)) (interval_place (bounds_in (Some sh)) k) no_node) index_shape
                ∙ sym (ap (λ o. slice_index_or (intervals_in (shape_in o)) (interval_place (bounds_in (shape_in o)) k) no_node) there_index)

            held_keyed : Holds limits final total (keyed after id rs ks) beside_now
            held_keyed =
                keyed_held settled id rs ks (keys_many g file rs ks may.named)
                (λ r named. (
                  ap is_some (same_named r named) ∙ named_live g law file rs ks may.named r named,
                  ap (λ o. is_record_shape (shape_in o)) (same_named r named) ∙ named_record g law file rs ks may.named r named,
                ))
                (interval_in_body index_stored.stored.body) intervals_are final (are index_stored.stored index_stored.there)

            lawful : IsLawfulGraph (keyed after id rs ks)
            lawful = lawful_after g law key ps file bounds keys rs ks may.file may.named may.inner may.few may.rise born'.many
                may.indexes apart_keys free_keys may.room

            pub over_sound : AreSound limits final total
            over_sound = sound_held held_keyed lawful (λ m live. due_grown m (sym (live_after after id rs ks m) ∙ live)
                ∙ due_keyed after id file rs ks lawful (seen_after after id rs ks (is_index_of_shape file) (λ xs ys. refl) id
                ∙ ap (λ o. is_index_of_shape file (shape_in o)) there_index ∙ same_node-refl file) m)

            pub over_made : IsIndexOver g (graph_of (seen limits final total)) (record { key = key; birth = births + 1 }) ps file bounds rs ks
            over_made = record { born = after; index = index_born; after = held_keyed.graph ∙ ap (λ i. keyed after i rs ks) (sym is_id) }
