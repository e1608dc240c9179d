-- An index is cut anew, and then the records whose interval changed move: what the slab shows after it, and that it is sound.
use Rattle.gl_graph.proofs.Words.{[], and-false, ap, ap₂, AreBornApart, Beside, beside_in_body, Bool, cases_of, children_of, count_by, due, due_as, false}
use Rattle.gl_graph.proofs.Words.{first_in, first_parent, get, Graph, Holds, if◌then◌else◌, Index, indexes_of, Interval, interval_of, is_child, is_file_shape}
use Rattle.gl_graph.proofs.Words.{is_index_of_shape, is_inner_shape, is_live, is_record_of, is_record_shape, IsLawfulGraph, keys_in, length, Limits, List}
use Rattle.gl_graph.proofs.Words.{list_any, nat_le, no, Node, node_at, node_of, node_passed, NodeId, nodes, None, none_some, Option, option_map, parents_in}
use Rattle.gl_graph.proofs.Words.{parents_in_body, parents_of, position, Rec, record_count, record_parents, refl, same_node, same_node-differ}
use Rattle.gl_graph.proofs.Words.{same_node-equal, same_node-other, Shape, shape_in, shape_in_body, shape_of, Slab, slab_len, slice_index_or, Some, some_is}
use Rattle.gl_graph.proofs.Words.{split, Stored, subst, sym, true, vertex_of, ℕ, ◌&&◌, ◌+◌, ◌<◌, ◌∙◌, ◌∷◌, ◌≡◌, ◌≢◌}
use Rattle.std.proofs.lemmas.List.Quantifiers.{position-Some}
use Rattle.gl_graph.specs.Splits.{reshaped, settled, settled_node, settled_parents}
use Rattle.gl_graph.proofs.Counts.{count_same, nodes_live}
use Rattle.gl_graph.proofs.Distinct.{one_place}
use Rattle.gl_graph.proofs.Distinct.{indexes_distinct}
use Rattle.gl_graph.proofs.Dues.{no_inner_among}
use Rattle.gl_graph.proofs.Held.{due_after, recounted_same}
use Rattle.gl_graph.proofs.KindRules.{index_node, interval_is}
use Rattle.gl_graph.proofs.Look.{finds, shaped_node}
use Rattle.gl_graph.proofs.Moves.{moved, moved_at, parents_moved}
use Rattle.gl_graph.proofs.Passed.{passed_beside, passed_other, passed_record, passed_shape}
use Rattle.gl_graph.proofs.RecordParents.{file_among, its_file, its_keys, its_parents, listed_index}
use Rattle.gl_graph.proofs.Recut.{file_stays, inner_stays, plain_settled, record_settled, Recut}
use Rattle.gl_graph.proofs.Rekey.{record_body}
use Rattle.gl_graph.proofs.Settled.{cut_here, cut_other, recut_nodes, recut_other, recut_shape, settled_nodes, settled_parents_same}
use Rattle.gl_graph.proofs.Slots.{at_birth, at_slot, shown, slot_at}

-- index x of file f has other bounds and intervals, in a graph with an interval more or less: the keys of interval `from` from the bound on have `to`
pub record Cuts (g grown : Graph) (x f : NodeId) (change : Shape → Shape) (bs bs' : List ℕ) (is is' : List NodeId) (from to : NodeId) (bound : ℕ) : Type 0 where
  pub law : IsLawfulGraph g
  pub shape : shape_of g x ≡ Some (Index f bs is)
  pub there : node_at grown x ≡ node_at g x
  pub changed : change (Index f bs is) ≡ Index f bs' is'
  pub recut : Recut g (settled (reshaped grown x change) f) x f bs' is is'
  pub law_after : IsLawfulGraph (settled (reshaped grown x change) f)
  pub listed : list_any (same_node from) is ≡ true
  pub key : (k : ℕ) → interval_of (settled (reshaped grown x change) f) x k
      ≡ (if nat_le bound k && same_node (interval_of g x k) from then to else interval_of g x k)
  pub other : (y : NodeId) → y ≢ x → (k : ℕ) → interval_of (settled (reshaped grown x change) f) y k ≡ interval_of g y k
  pub back : (q : NodeId) (node : Node) → node_at grown q ≡ Some node → is_record_shape (Some node.shape) ≡ true → node_at g q ≡ Some node
  pub same : (q : NodeId) → is_live g q ≡ true → is_live (settled (reshaped grown x change) f) q ≡ true → node_at grown q ≡ node_at g q
  pub children : (m : NodeId) → is_inner_shape (shape_of g m) ≡ true → children_of grown m ≡ children_of g m
  pub records : (m : NodeId) → is_file_shape (shape_of g m) ≡ true → record_count grown m ≡ record_count g m

module _ {g grown : Graph} {x f : NodeId} {change : Shape → Shape} {bs bs' : List ℕ} {is is' : List NodeId} {from to : NodeId} {bound : ℕ}
    (c : Cuts g grown x f change bs bs' is is' from to bound) where
  abbrev pub cut : Graph
  cut = reshaped grown x change

  abbrev pub after : Graph
  after = settled cut f

  old : (node : Node) × (node_at g x ≡ Some node) × (node.shape ≡ Index f bs is)
  old = shaped_node g x (Index f bs is) c.shape

  there' : node_at grown x ≡ Some old.0
  there' = c.there ∙ old.1

  from_node : node_at g from ≡ Some (record { key = from.key; shape = Interval; parents = x ∷ [] })
  from_node = (index_node g c.law x f bs is c.shape).intervals from c.listed

  -- no key of another index has the interval
  not_from : (h y : NodeId) (k : ℕ) → is_index_of_shape h (shape_of g y) ≡ true → y ≢ x → same_node (interval_of g y k) from ≡ false
  not_from h y k is_index ne = same_node-differ (interval_of g y k) from
      (λ e. ne (ap (λ (n : Node). first_in n.parents) (some_is (sym (interval_is g c.law h y k is_index) ∙ ap (node_at g) e ∙ from_node))))

  -- so for each index the interval of a key is the one before, or moved
  key_moved : (h y : NodeId) (k : ℕ) → is_index_of_shape h (shape_of g y) ≡ true → interval_of after y k ≡ moved g after from to bound y k
  key_moved h y k is_index =
      split (same_node y x)
      (λ t.
      let e = same_node-equal y x t in
      ap (λ z. interval_of after z k) e ∙ c.key k ∙ sym (ap (λ z. moved g after from to bound z k) e))
      (λ t.
      let ne = same_node-other y x t in
      c.other y ne k
      ∙ sym (ap (λ b. if nat_le bound k && b then to else interval_of g y k) (not_from h y k is_index ne)
      ∙ ap (λ b. if b then to else interval_of g y k) (and-false (nat_le bound k))))

  -- the place of the index among those of its file
  module _ (col : ℕ) (found : position (λ listed. same_node listed x) (indexes_of g f) ≡ Some col) where
    -- at any other place, and in any other file, is another index
    elsewhere : (h : NodeId) (j : ℕ) (d : NodeId) → j < length (indexes_of g h) → j ≢ col → slice_index_or (indexes_of g h) j d ≢ x
    elsewhere h j d low ne e =
        let is_index = listed_index g h j d low in
        let file : h ≡ f = same_node-equal h f (sym (ap (is_index_of_shape h) (ap (shape_of g) e ∙ c.shape)) ∙ is_index) in
        let at = position-Some (λ listed. same_node listed x) (indexes_of g f) col d found in
        let low' : j < length (indexes_of g f) = subst (λ i. j < length (indexes_of g i)) file low in
        ne (one_place (indexes_of g f) j col d (indexes_distinct g f) low' at.0
        (ap (λ i. slice_index_or (indexes_of g i) j d) (sym file) ∙ e ∙ sym (same_node-equal (slice_index_or (indexes_of g f) col d) x at.1)))

    -- the parents of a record with these keys
    record_now : (h : NodeId) (ks : List ℕ) → length ks ≡ length (indexes_of g h)
        → record_parents after h ks ≡ moved_at from to bound col (col + 1) ks (record_parents g h ks)
    record_now h ks each =
        parents_moved g after from to bound h ks col (c.recut.indexes h) each
        (λ j d low ne k. c.other (slice_index_or (indexes_of g h) j d) (elsewhere h j d low ne) k)
        (λ d low k. key_moved h (slice_index_or (indexes_of g h) col d) k (listed_index g h col d low))

    -- a record of the graph as it was, as it is stored
    module _ (q : NodeId) (b : Stored) (node : node_at g q ≡ Some (node_of q.key (vertex_of b)))
        (rec : is_record_shape (Some (shape_in_body b.body)) ≡ true) where
      is_rec : is_record_shape (shape_of g q) ≡ true
      is_rec = ap (λ o. is_record_shape (shape_in o)) node ∙ rec

      record_fits : settled_parents cut f (shape_in_body b.body) (parents_in_body b.body) ≡ parents_in_body (node_passed col from bound to b).body
      record_fits =
          let keys = keys_in (Some (shape_in_body b.body)) in
          let h = first_parent g q in
          let keys_are : keys_in (shape_of g q) ≡ keys = ap (λ o. keys_in (shape_in o)) node in
          let parents_are : parents_in_body b.body ≡ record_parents g h keys =
          sym (ap parents_in node) ∙ its_parents g c.law q is_rec ∙ ap (record_parents g h) keys_are in
          ap (λ s. settled_parents cut f s (parents_in_body b.body)) (record_body (shape_in_body b.body) rec)
          ∙ sym (settled_parents_same cut f (Rec keys) (parents_in_body b.body))
          ∙ record_settled g after c.law x f bs bs' is is' c.shape c.recut h keys (parents_in_body b.body) parents_are
          ∙ record_now h keys (sym (ap length keys_are) ∙ its_keys g c.law q is_rec)
          ∙ ap (moved_at from to bound col (col + 1) keys) (sym parents_are)
          ∙ sym (passed_record col from bound to b rec)

    abbrev now : Stored → Stored
    now b = node_passed col from bound to b

    module _ {limits : Limits} {mid : Slab Stored} {births : ℕ} {beside : NodeId → Beside} (h : Holds limits mid births cut beside) where
      cut_at : (k : ℕ) (b : Stored) → get mid k ≡ Some b → cut.at b.birth ≡ Some (node_of k (vertex_of b))
      cut_at k b e = ap (λ (g' : Graph). g'.at b.birth) (sym h.graph) ∙ at_slot mid h.apart k b e

      cut_node : (k : ℕ) (b : Stored) → get mid k ≡ Some b → node_at cut (record { key = k; birth = b.birth }) ≡ Some (node_of k (vertex_of b))
      cut_node k b e = finds k (cut.at b.birth) (node_of k (vertex_of b)) (cut_at k b e) refl

      not_index : (q : NodeId) → is_record_shape (shape_of cut q) ≡ true → q ≢ x
      not_index q rec e =
          no (sym (ap (λ s. is_record_shape (Some s)) (ap change old.2 ∙ c.changed))
          ∙ sym (ap (λ o. is_record_shape (shape_in o)) (cut_here grown x f old.0 there' change bs bs' is is' old.2 c.changed))
          ∙ sym (ap (λ y. is_record_shape (shape_of cut y)) e) ∙ rec)

      -- each node gets the parents that it is to have
      fits : (k : ℕ) (b : Stored) → get mid k ≡ Some b
          → settled_parents cut f (shape_in_body b.body) (parents_in_body b.body) ≡ parents_in_body (now b).body
      fits k b e = split (is_record_shape (Some (shape_in_body b.body)))
          (λ rec.
          let q : NodeId = record { key = k; birth = b.birth } in
          let there = cut_node k b e in
          let ne = not_index q (ap (λ o. is_record_shape (shape_in o)) there ∙ rec) in
          let before = c.back q (node_of k (vertex_of b)) (sym (cut_other grown x f old.0 there' change bs bs' is is' old.2 c.changed q ne) ∙ there) rec in
          record_fits q b before rec)
          (λ plain. plain_settled cut f (shape_in_body b.body) (parents_in_body b.body) plain ∙ sym (passed_other col from bound to b plain))

      settles : (k : ℕ) (b : Stored) → get mid k ≡ Some b → settled_node cut f (Some (node_of k (vertex_of b))) ≡ Some (node_of k (vertex_of (now b)))
      settles k b e =
          let s = sym (passed_shape col from bound to b) in
          let p = fits k b e in
          λ i. Some (record { key = k; shape = s i; parents = p i })

      module _ (new : Slab Stored) (moves : (k : ℕ) → get new k ≡ option_map (node_passed col from bound to) (get mid k))
          (len : slab_len new ≡ slab_len mid) where
        was_there : (k : ℕ) (y : Stored) → get new k ≡ Some y → (b : Stored) × (get mid k ≡ Some b) × (now b ≡ y)
        was_there k y e = cases_of (get mid k)
            (λ none. absurd (none_some (sym (moves k ∙ ap (option_map now) none) ∙ e)))
            (λ b there. (b, there, some_is (sym (moves k ∙ ap (option_map now) there) ∙ e)))

        shows : AreBornApart new × (at_birth new ≡ after.at)
        shows =
            shown new after.at
            (λ k y e.
            let w = was_there k y e in
            subst (λ (z : Stored). after.at z.birth ≡ Some (node_of k (vertex_of z))) w.2 (ap (settled_node cut f) (cut_at k w.0 w.1) ∙ settles k w.0 w.1))
            (λ b node e. cases_of (cut.at b)
            (λ none. absurd (none_some (sym (ap (settled_node cut f) none) ∙ e)))
            (λ w there.
            let s = slot_at mid b w (ap (λ (g' : Graph). g'.at b) h.graph ∙ there) in
            record {
              key = s.key;
              stored = now s.stored;
              there = moves s.key ∙ ap (option_map now) s.there;
              born = s.born;
              is = some_is (sym e ∙ ap (settled_node cut f) (there ∙ ap Some s.is) ∙ settles s.key s.stored s.there);
            }))

        -- the slab shows the index cut anew, and each record of its file under the intervals of its keys
        pub carried : Holds limits new births after beside
        carried = record {
          graph = (let same = shows.1 in λ i. record { at = same i; births = births; most = limits.most; most_bounds = limits.most_bounds })
              ∙ ap (λ (g' : Graph). record { at = after.at; births = g'.births; most = g'.most; most_bounds = g'.most_bounds }) h.graph;
          apart = shows.0;
          counted = len ∙ h.counted ∙ sym (ap length (settled_nodes cut f));
          kept = λ k y e.
              let w = was_there k y e in
              subst (λ (z : Stored). beside_in_body z.body ≡ beside (record { key = k; birth = z.birth })) w.2
              (passed_beside col from bound to w.0 ∙ h.kept k w.0 w.1);
        }

  -- a node has an inner node, or a file, among its parents as before
  file_after : (h : NodeId) → is_file_shape (shape_of g h) ≡ true → is_file_shape (shape_of after h) ≡ true
  file_after h file = ap (λ o. is_file_shape (shape_in o)) (file_stays g after c.law x f bs bs' is is' c.shape c.recut h file) ∙ file

  inner_after : (h : NodeId) → is_inner_shape (shape_of g h) ≡ true → is_inner_shape (shape_of after h) ≡ true
  inner_after h inner = ap (λ o. is_inner_shape (shape_in o)) (inner_stays g after c.law x f bs bs' is is' c.shape c.recut h inner) ∙ inner

  nodes_same : nodes after ≡ nodes grown
  nodes_same = recut_nodes grown x f old.0 there' change bs bs' is is' old.2 c.changed

  node_after : (q : NodeId) → q ≢ x → node_at after q ≡ settled_node after f (node_at grown q)
  node_after q ne = recut_other grown x f old.0 there' change bs bs' is is' old.2 c.changed q ne

  -- what is seen alike of each record, before and after, is seen alike of each node
  alike : (see : Option Shape → List NodeId → Bool) → ((h : NodeId) (ks : List ℕ) → is_file_shape (shape_of g h) ≡ true
      → see (Some (Rec ks)) (record_parents after h ks) ≡ see (Some (Rec ks)) (record_parents g h ks))
      → ((b1 b2 : List ℕ) (i1 i2 : List NodeId) (ps : List NodeId) → see (Some (Index f b1 i1)) ps ≡ see (Some (Index f b2 i2)) ps)
      → (q : NodeId) → see (shape_of after q) (parents_of after q) ≡ see (shape_of grown q) (parents_of grown q)
  alike see records index q = split (same_node q x) (λ t. here (same_node-equal q x t)) (λ t. by (node_at grown q) refl (same_node-other q x t))
    where
      here : q ≡ x → see (shape_of after q) (parents_of after q) ≡ see (shape_of grown q) (parents_of grown q)
      here e =
          ap (λ y. see (shape_of after y) (parents_of after y)) e
          ∙ ap (λ o. see (shape_in o) (parents_in o)) c.recut.here
          ∙ index bs' bs is' is (parents_of g x)
          ∙ sym (ap (λ y. see (shape_of grown y) (parents_of grown y)) e ∙ ap (λ o. see (shape_in o) (parents_in o)) c.there
          ∙ ap (λ o. see o (parents_of g x)) c.shape)

      by : (o : Option Node) → node_at grown q ≡ o → q ≢ x
          → see (shape_of after q) (parents_of after q) ≡ see (shape_in (node_at grown q)) (parents_in (node_at grown q))
      by None e ne =
          ap (λ o. see (shape_in o) (parents_in o)) (node_after q ne ∙ ap (settled_node after f) e)
          ∙ sym (ap (λ o. see (shape_in o) (parents_in o)) e)
      by (Some w) e ne =
          ap (λ o. see (shape_in o) (parents_in o)) (node_after q ne ∙ ap (settled_node after f) e)
          ∙ split (is_record_shape (Some w.shape))
          (λ rec.
          let node = c.back q w e rec in
          let is_rec = ap (λ o. is_record_shape (shape_in o)) node ∙ rec in
          let ks = keys_in (Some w.shape) in
          let h = first_parent g q in
          let is_keys = record_body w.shape rec in
          let parents_are : w.parents ≡ record_parents g h ks =
          sym (ap parents_in node) ∙ its_parents g c.law q is_rec ∙ ap (λ o. record_parents g h (keys_in (shape_in o))) node in
          ap (λ s. see (Some s) (settled_parents after f s w.parents)) is_keys
          ∙ ap (see (Some (Rec ks))) (record_settled g after c.law x f bs bs' is is' c.shape c.recut h ks w.parents parents_are)
          ∙ records h ks (its_file g c.law q is_rec)
          ∙ sym (ap₂ (λ s ps. see (Some s) ps) is_keys parents_are))
          (λ plain. ap (see (Some w.shape)) (plain_settled after f w.shape w.parents plain))
          ∙ sym (ap (λ o. see (shape_in o) (parents_in o)) e)

  children_same : (m : NodeId) → is_inner_shape (shape_of g m) ≡ true → children_of after m ≡ children_of g m
  children_same m inner =
      ap (count_by (is_child after m)) nodes_same
      ∙ count_same (is_live grown) (is_child grown m) (is_child after m) (nodes grown) (nodes_live grown)
      (λ q live. alike (λ o ps. list_any (same_node m) ps)
      (λ h ks file. no_inner_among after c.law_after h m ks (file_after h file) (inner_after m inner) ∙ sym (no_inner_among g c.law h m ks file inner))
      (λ b1 b2 i1 i2 ps. refl) q)
      ∙ c.children m inner

  records_same : (m : NodeId) → is_file_shape (shape_of g m) ≡ true → record_count after m ≡ record_count g m
  records_same m file =
      ap (count_by (is_record_of after m)) nodes_same
      ∙ count_same (is_live grown) (is_record_of grown m) (is_record_of after m) (nodes grown) (nodes_live grown)
      (λ q live. alike (λ o ps. is_record_shape o && list_any (same_node m) ps)
      (λ h ks is_file. file_among after c.law_after h m ks (file_after m file) ∙ sym (file_among g c.law h m ks file))
      (λ b1 b2 i1 i2 ps. refl) q)
      ∙ c.records m file

  -- the same is due beside each node that stays
  pub due_same : (q : NodeId) → is_live g q ≡ true → is_live after q ≡ true → due g q ≡ due after q
  due_same q live live' = split (same_node q x)
      (λ t.
      let e = same_node-equal q x t in
      ap (λ y. due_as g q (shape_of g y)) e ∙ ap (due_as g q) c.shape
      ∙ sym (ap (λ y. due_as after q (shape_of after y)) e ∙ ap (λ o. due_as after q (shape_in o)) c.recut.here))
      (λ t.
      let ne = same_node-other q x t in
      let shape : shape_of after q ≡ shape_of g q =
      recut_shape grown x f old.0 there' change bs bs' is is' old.2 c.changed q ne ∙ ap shape_in (c.same q live live') in
      sym (recounted_same (due g q))
      ∙ due_after g after q (λ n. n) (shape_of g q) (λ e. children_same q (ap is_inner_shape e)) (λ k. (c.recut.indexes q, records_same q k))
      ∙ ap (due_as after q) (sym shape))
