-- An inner node, a file or a record is added: what is stored beside the nodes is due again after its parents count it.
use Rattle.gl_graph.proofs.Words.{[], ap, ap₂, AreInnerParents, AreRecounted, AreSound, arith, beside_in_body, Body, body_with_records, born_node, ContainsKey}
use Rattle.gl_graph.proofs.Words.{Counts, due, due_as, false, get, Graph, graph_of, Holds, if◌then◌else◌, indexes_of, is_file_shape, is_index_of_shape}
use Rattle.gl_graph.proofs.Words.{is_inner_shape, is_live, is_record_shape, is_some, IsBorn, IsFreeKey, IsLawfulGraph, IsPlainBody, length, Limits, List}
use Rattle.gl_graph.proofs.Words.{list_any, Lists, no, Node, node_at, node_count, node_of, NodeId, None, not_true, Nothing, parents_in_body, Rec, record_count}
use Rattle.gl_graph.proofs.Words.{record_parents, refl, same_node, same_node-equal, same_node-refl, seen, shape_in, shape_in_body, shape_of, Slab, slab_len}
use Rattle.gl_graph.proofs.Words.{Some, split, Stored, subst, sym, true, Updates, vertex_of, ℕ, ◌&&◌, ◌+◌, ◌<◌, ◌^◌, ◌∙◌, ◌∷◌, ◌≡◌, ◌≤◌}
use Rattle.gl_graph.specs.declared.node.Body.TheVariants as body
use Rattle.gl_graph.proofs.Born.{old_below, old_same}
use Rattle.gl_graph.proofs.Counted.{AreKept, are_kept, counted_in, counts_written}
use Rattle.gl_graph.proofs.Counts.{dead_records, dead_indexes}
use Rattle.gl_graph.proofs.Dues.{record_test, inner_due, file_due, no_inner_among, not_among, children_fit, dead_children, children_born}
use Rattle.gl_graph.proofs.Dues.{records_born, born_same, due_old, one_more}
use Rattle.gl_graph.proofs.Held.{put, put_here, put_other, IsStored, live_held, node_added, key_free, births_held, sound_held, recounted, recounted_same}
use Rattle.gl_graph.proofs.Held.{beside_written}
use Rattle.gl_graph.proofs.Look.{all_at}
use Rattle.gl_graph.proofs.KindRules.{parents_kept, plain_live, inner_plain, file_plain}
use Rattle.gl_graph.proofs.NewNodes.{one_indexes, record_lawful}
use Rattle.gl_graph.proofs.RecordParents.{file_among}
use Rattle.gl_graph.proofs.SameParents.{records_shown}
use Rattle.gl_graph.proofs.Tally.{ones}

-- a file with another number of records
pub records_written : (b : Body) (is : List NodeId) (k records : ℕ) → beside_in_body b ≡ Lists is k
    → beside_in_body (body_with_records b records) ≡ Lists is records
records_written (body.File kept above) is k records e = cc
records_written _ is k records e = cc

module _ {limits : Limits} {old mid : Slab Stored} {births : ℕ} {g : Graph} (h : Holds limits old births g (due g)) (law : IsLawfulGraph g)
    (key : ℕ) (x : Stored) (free : get old key ≡ None) (u : Updates old mid key (Some x)) (next : x.birth ≡ births + 1)
    (len : slab_len mid ≡ slab_len old + 1) where
  abbrev pub id : NodeId
  id = record { key = key; birth = g.births + 1 }

  abbrev pub node : Node
  node = node_of key (vertex_of x)

  abbrev pub after : Graph
  after = born_node g node

  not_live : is_live g id ≡ false
  not_live = not_true _ (λ t. let low = old_below g law [] id t in absurd (omega arith))

  there : node_at after id ≡ Some node
  there = grind arith

  added : Holds limits mid (births + 1) after (put id (beside_in_body x.body) (due g))
  added = node_added h law key x free u next len

  was_live : (n : NodeId) → is_live after n ≡ true → same_node n id ≡ false → is_live g n ≡ true
  was_live n live other = grind arith

  is_born : (new : Slab Stored) → graph_of (seen limits new (births + 1)) ≡ after
      → IsBorn g (graph_of (seen limits new (births + 1))) (record { key = key; birth = births + 1 }) (shape_in_body x.body) (parents_in_body x.body)
  is_born new e = record {
    key_free = key_free h law key x free u next len;
    birth = ap (λ b. b + 1) (sym (births_held h));
    after = e;
  }

  -- an inner node or a file, which its parents count
  module _ (plain : IsPlainBody x.body) (ps : List NodeId) (under : parents_in_body x.body ≡ ps) (inner : AreInnerParents g 0 ps)
      (lawful : IsLawfulGraph g → IsFreeKey g key → IsLawfulGraph (born_node g (record { key = key; shape = shape_in_body x.body; parents = ps }))) where
    no_index : (f : NodeId) → is_index_of_shape f (Some (shape_in_body x.body)) ≡ false
    no_index f = grind arith

    no_record : is_record_shape (Some (shape_in_body x.body)) ≡ false
    no_record = grind arith

    law' : IsLawfulGraph after
    law' = subst (λ qs. IsLawfulGraph (born_node g (record { key = key; shape = shape_in_body x.body; parents = qs }))) (sym under)
        (lawful law (key_free h law key x free u next len))

    inner' : AreInnerParents after 0 ps
    inner' = parents_kept g after law (born_same g law node no_index) 0 ps inner

    not_mine : list_any (same_node id) ps ≡ false
    not_mine = not_among g ps id inner.inner not_live

    other : (n : NodeId) → is_live g n ≡ true → same_node n id ≡ false
    other n live = not_true _ (λ t. no (sym not_live ∙ ap (is_live g) (sym (same_node-equal n id t)) ∙ live))

    pub plain_kept : AreKept (λ children. children + 1 < 2 ^ 64) mid ps
    plain_kept =
        are_kept added law'.keys_differ ps inner'.inner inner'.distinct (λ children. children + 1 < 2 ^ 64)
        (λ n listed is. let was = all_at (λ q. is_inner_shape (shape_of g q)) ps n listed inner.inner in
        subst (λ b. counted_in b + 1 < 2 ^ 64)
        (sym (put_other id (beside_in_body x.body) (due g) n (other n (plain_live g n (inner_plain _ was))) ∙ inner_due g n was)) (children_fit g law n))

    abbrev more : NodeId → ℕ → ℕ
    more n c = if list_any (same_node n) ps then c + 1 else c

    due_new : recounted (more id) (beside_in_body x.body) ≡ due after id
    due_new = by x.body refl plain ∙ sym (ap (λ o. due_as after id (shape_in o)) there)
      where
        by : (b : Body) → x.body ≡ b → IsPlainBody b → recounted (more id) (beside_in_body b) ≡ due_as after id (Some (shape_in_body b))
        by (body.Inner children above) e p =
            ap Counts (ap (λ t. if t then children + 1 else children) not_mine ∙ p
            ∙ sym (children_born g law node no_index id ∙ ap₂ (λ k t. k + ones t) (dead_children g law id not_live)
            (ap (list_any (same_node id)) under ∙ not_mine)))
        by (body.File kept above) e p =
            ap₂ Lists (p.0 ∙ sym (one_indexes g law node no_index id ∙ dead_indexes g law id not_live))
            (p.1 ∙ sym (records_born g law node no_index id ∙ ap₂ (λ k t. k + ones t) (dead_records g law id not_live)
            (ap (λ t. t && list_any (same_node id) node.parents) no_record)))
        by _ e p = absurd p

    module _ (new : Slab Stored) (re : AreRecounted (λ children. children + 1) mid new ps (length ps)) where
      counted : Holds limits new (births + 1) after (λ n. recounted (more n) (put id (beside_in_body x.body) (due g) n))
      counted = counts_written added law'.keys_differ ps inner'.inner inner'.distinct
          (λ children. children + 1) new re

      pub plain_sound : AreSound limits new (births + 1)
      plain_sound =
          sound_held counted law' (λ n live.
          split (same_node n id) (λ t.
          let same = same_node-equal n id t in
          ap (λ m. recounted (more m) (put id (beside_in_body x.body) (due g) m)) same
          ∙ ap (recounted (more id)) (put_here id (beside_in_body x.body) (due g)) ∙ due_new ∙ ap (due after) (sym same))
          (λ t. grind (arith, was_live, live, recounted, put_other, due_old, no_index, one_more, ones, no_record)))

      pub plain_born : IsBorn g (graph_of (seen limits new (births + 1))) (record { key = key; birth = births + 1 }) (shape_in_body x.body) ps
      plain_born = subst (IsBorn g (graph_of (seen limits new (births + 1))) (record { key = key; birth = births + 1 }) (shape_in_body x.body)) under
          (is_born new counted.graph)

  -- a record, which its file counts
  module _ (file : NodeId) (keys : List ℕ) (is_file : is_file_shape (shape_of g file) ≡ true) (shape : shape_in_body x.body ≡ Rec keys)
      (under : parents_in_body x.body ≡ record_parents g file keys) where
    live : is_live g file ≡ true
    live = plain_live g file (file_plain _ is_file)

    slot : IsStored old g (due g) file
    slot = live_held h file live

    file_there : get mid file.key ≡ Some slot.stored
    file_there = u.others file.key (key_free h law key x free u next len file live) ∙ slot.there

    pub file_contained : ContainsKey mid file.key
    file_contained = ap is_some file_there

    node_made : record { key = key; shape = Rec keys; parents = record_parents g file keys } ≡ node
    node_made = let s = sym shape in let p = sym under in λ i. record { key = key; shape = s i; parents = p i }

    no_index' : (f : NodeId) → is_index_of_shape f (Some (shape_in_body x.body)) ≡ false
    no_index' f = ap (λ s. is_index_of_shape f (Some s)) shape

    -- it is a record of its file alone
    record_of : (n : NodeId) → is_file_shape (shape_of g n) ≡ true → record_test n (Some node) ≡ same_node n file
    record_of n k = ap₂ (λ s ps. is_record_shape (Some s) && list_any (same_node n) ps) shape under ∙ file_among g law file n keys k

    module _ (each : length keys ≡ length (indexes_of g file)) (room : node_count g + 1 ≤ g.most) (records : ℕ) (count : records ≡ record_count g file + 1)
        (new : Slab Stored)
        (write : (y : Stored) → get mid file.key ≡ Some y → Updates mid new file.key (Some (record y { body = body_with_records y.body records })))
        (len' : slab_len new ≡ slab_len mid) where
      law'' : IsLawfulGraph after
      law'' = subst (λ n. IsLawfulGraph (born_node g n)) node_made
          (record_lawful g law key file keys is_file each (key_free h law key x free u next len) room)

      written : Holds limits new (births + 1) after
          (put file (beside_in_body (body_with_records slot.stored.body records)) (put id (beside_in_body x.body) (due g)))
      written =
          beside_written added file slot.stored
          (record slot.stored { body = body_with_records slot.stored.body records }) file_there slot.born (write slot.stored file_there) refl len'
          (records_shown file.key slot.stored.body records)

      due_file : beside_in_body (body_with_records slot.stored.body records) ≡ due after file
      due_file =
          records_written slot.stored.body (indexes_of g file) (record_count g file) records (slot.kept ∙ file_due g file is_file)
          ∙ ap₂ Lists (sym (one_indexes g law node no_index' file))
          (count ∙ sym (records_born g law node no_index' file ∙ ap (λ t. record_count g file + ones t) (record_of file is_file ∙ same_node-refl file)))
          ∙ sym (file_due after file (ap (λ o. is_file_shape (shape_in o)) (old_same g law (node ∷ []) file live) ∙ is_file))

      pub record_sound : AreSound limits new (births + 1)
      record_sound =
          sound_held written law'' (λ n alive.
          split (same_node n file) (λ t.
          let same = same_node-equal n file t in
          ap (put file (beside_in_body (body_with_records slot.stored.body records)) (put id (beside_in_body x.body) (due g))) same
          ∙ put_here file (beside_in_body (body_with_records slot.stored.body records)) (put id (beside_in_body x.body) (due g))
          ∙ due_file ∙ ap (due after) (sym same))
          (λ t. put_other file (beside_in_body (body_with_records slot.stored.body records)) (put id (beside_in_body x.body) (due g)) n t
          ∙ split (same_node n id) (λ w. grind arith) (λ w.
          let old_live = was_live n alive w in
          put_other id (beside_in_body x.body) (due g) n w ∙ sym (recounted_same (due g n))
          ∙ due_old g law node no_index' (λ c. c) n old_live
          (λ i. grind (arith, ones, no_inner_among)) (λ f. record_of n f ∙ t))))
        where
          nothing : (b : Body) → shape_in_body b ≡ Rec keys → beside_in_body b ≡ Nothing
          nothing (body.Inner children above) e = cc
          nothing (body.File kept above) e = cc
          nothing _ e = refl

      pub record_born : IsBorn g (graph_of (seen limits new (births + 1))) (record { key = key; birth = births + 1 }) (Rec keys) (record_parents g file keys)
      record_born = subst (λ (m : Node). IsBorn g (graph_of (seen limits new (births + 1))) (record { key = key; birth = births + 1 }) m.shape m.parents)
          (sym node_made) (is_born new written.graph)
