-- One index has other bounds and intervals, and the records of its file have the parents of their keys: the law of the graph is kept.
use Rattle.std.proofs.Common.{◌∙◌, ap, ap₂, refl, subst, sym}
use Rattle.std.specs.List.{list_all, list_any}
use Rattle.std.specs.Prelude.{◌≡◌, ◌≢◌, ◌+◌, ◌≤◌, ◌^◌, ℕ, Bool, true, false, List, [], ◌∷◌, length, Option, Some, None, is_some, if◌then◌else◌, ◌&&◌}
use Rattle.gl_modes.proofs.NodeLemmas.{same_node-equal, same_node-other}
use Rattle.gl_modes.proofs.Words.{and_both, no, not_true, some_is, split}
use Rattle.gl_modes.specs.Nodes.{same_node}
use Rattle.gl_modes.specs.declared.node.NodeId.{NodeId}
use Rattle.gl_graph.proofs.KindRules.{index_node, index_of}
use Rattle.gl_graph.proofs.Look.{all_filter, child_node, live_node, shaped_node}
use Rattle.gl_graph.specs.Graph.{first_in, Graph, indexes_of, intervals_of, is_child, is_live, Node, node_at, node_count, nodes, parents_in, parents_of}
use Rattle.gl_graph.specs.Graph.{record_parents, shape_in, shape_of}
use Rattle.gl_graph.specs.Lawful.{are_distinct, are_inner, AreInnerParents, HasShape, IsIndexNode, IsLawfulGraph, IsRising, IsWellFormed}
use Rattle.gl_graph.specs.Shapes.{File, Index, Inner, Interval, intervals_in}
use Rattle.gl_graph.specs.Shapes.{is_file_shape, is_index_of_shape, is_index_shape, is_inner_shape, is_interval_shape}
use Rattle.gl_graph.specs.Shapes.{is_record_shape, Rec, Shape}
use Rattle.gl_graph.specs.Splits.{settled_node, settled_parents}
use Rattle.gl_graph.proofs.Ranks.{acyclic_by_kinds, rises}
use Rattle.gl_graph.proofs.Settled.{interval_same}

-- index x of file f has these bounds and intervals; each other node that is no interval of it stays, but for the parents of the file's records
pub record Recut (g g' : Graph) (x f : NodeId) (bs' : List ℕ) (is is' : List NodeId) : Type 0 where
  pub here : node_at g' x ≡ Some (record { key = x.key; shape = Index f bs' is'; parents = parents_of g x })
  pub others : (q : NodeId) → is_live g q ≡ true → q ≢ x → list_any (same_node q) is ≡ false → node_at g' q ≡ settled_node g' f (node_at g q)
  pub listed : (q : NodeId) → list_any (same_node q) is' ≡ true → node_at g' q ≡ Some (record { key = q.key; shape = Interval; parents = x ∷ [] })
  pub were : (q : NodeId) → is_live g' q ≡ true → q ≢ x → list_any (same_node q) is' ≡ false → (is_live g q ≡ true) × (list_any (same_node q) is ≡ false)
  pub indexes : (h : NodeId) → indexes_of g' h ≡ indexes_of g h
  pub most_bounds : g'.most_bounds ≡ g.most_bounds

-- and this much is right about it
pub record Fits (g g' : Graph) (bs' : List ℕ) (is' : List NodeId) : Type 0 where
  pub rising : IsRising (0 ∷ bs')
  pub few : length bs' ≤ g.most_bounds
  pub count : length is' ≡ length bs' + 1
  pub distinct : are_distinct is' ≡ true
  pub keys_differ : (m n : NodeId) → is_live g' m ≡ true → is_live g' n ≡ true → m.key ≡ n.key → m ≡ n
  pub born : (b : ℕ) → is_some (g'.at b) ≡ true → (1 ≤ b) × (b ≤ g'.births)
  pub most : g'.most ≡ g.most
  pub room : node_count g' ≤ g.most

pub plain_settled : (g : Graph) (f : NodeId) (sh : Shape) (ps : List NodeId) → is_record_shape (Some sh) ≡ false → settled_parents g f sh ps ≡ ps
plain_settled g f (Rec keys) ps h = absurd (no (sym h))
plain_settled g f _ ps h = refl

module _ (g g' : Graph) (law : IsLawfulGraph g) (x f : NodeId) (bs bs' : List ℕ) (is is' : List NodeId) (shape : shape_of g x ≡ Some (Index f bs is))
    (cut : Recut g g' x f bs' is is') where
  its : IsIndexNode g x f bs is
  its = index_node g law x f bs is shape

  -- a node that is no record, and no interval of the index, stays
  pub plain_stays : (q : NodeId) (node : Node) → node_at g q ≡ Some node → q ≢ x → list_any (same_node q) is ≡ false → is_record_shape (Some node.shape) ≡ false
      → node_at g' q ≡ Some node
  plain_stays q node e ne out plain =
      cut.others q (ap is_some e) ne out ∙ ap (settled_node g' f) e ∙ ap (λ ps. Some (record node { parents = ps }))
      (plain_settled g' f node.shape node.parents plain)

  -- a node of a kind that is none of an interval, a record, or this index
  stays_by : (kind : Option Shape → Bool) → kind None ≡ false → kind (Some Interval) ≡ false → ((keys : List ℕ) → kind (Some (Rec keys)) ≡ false)
      → (q : NodeId) → q ≢ x → kind (shape_of g q) ≡ true → node_at g' q ≡ node_at g q
  stays_by kind none interval rec q ne h = by (node_at g q) refl h
    where
      no_rec : (sh : Shape) → kind (Some sh) ≡ true → is_record_shape (Some sh) ≡ false
      no_rec (Rec keys) k = absurd (no (sym (rec keys) ∙ k))
      no_rec _ k = refl

      by : (o : Option Node) → node_at g q ≡ o → kind (shape_in o) ≡ true → node_at g' q ≡ o
      by None e k = absurd (no (sym none ∙ k))
      by (Some node) e k =
          plain_stays q node e ne
          (not_true (list_any (same_node q) is)
          (λ l. no (sym interval ∙ ap (λ o. kind (shape_in o)) (sym (its.intervals q l) ∙ e) ∙ k)))
          (no_rec node.shape k)

  -- and a node of such a kind is not the index either
  not_x : (kind : Option Shape → Bool) → kind (Some (Index f bs is)) ≡ false → (q : NodeId) → kind (shape_of g q) ≡ true → q ≢ x
  not_x kind index q h e = no (sym index ∙ ap kind (sym shape) ∙ ap (λ y. kind (shape_of g y)) (sym e) ∙ h)

  pub inner_stays : (q : NodeId) → is_inner_shape (shape_of g q) ≡ true → node_at g' q ≡ node_at g q
  inner_stays q h = stays_by is_inner_shape refl refl (λ keys. refl) q (not_x is_inner_shape refl q h) h

  pub file_stays : (q : NodeId) → is_file_shape (shape_of g q) ≡ true → node_at g' q ≡ node_at g q
  file_stays q h = stays_by is_file_shape refl refl (λ keys. refl) q (not_x is_file_shape refl q h) h

  pub index_stays : (q : NodeId) → q ≢ x → is_index_shape (shape_of g q) ≡ true → node_at g' q ≡ node_at g q
  index_stays q ne h = stays_by is_index_shape refl refl (λ keys. refl) q ne h

  -- an interval of another index stays
  pub interval_stays : (q y : NodeId) (node : Node) → node_at g q ≡ Some node → node.shape ≡ Interval → node.parents ≡ y ∷ [] → y ≢ x → node_at g' q ≡ Some node
  interval_stays q y node e s above ne =
      plain_stays q node e (not_x is_interval_shape refl q (ap (λ o. is_interval_shape (shape_in o)) e ∙ ap (λ sh. is_interval_shape (Some sh)) s))
      (not_true (list_any (same_node q) is)
      (λ l. ne (ap (λ ps. first_in ps) (sym above ∙ ap parents_in (sym e ∙ its.intervals q l))))) (ap (λ sh. is_record_shape (Some sh)) s)

  inner_kept : (ps : List NodeId) → are_inner g ps ≡ true → are_inner g' ps ≡ true
  inner_kept [] h = refl
  inner_kept (p ∷ ps) h =
      let t = and_both (is_inner_shape (shape_of g p)) (are_inner g ps) h in
      ap₂ (λ a b. a && b) (ap (λ o. is_inner_shape (shape_in o)) (inner_stays p t.0) ∙ t.0) (inner_kept ps t.1)

  parents_kept : (least : ℕ) (ps : List NodeId) → AreInnerParents g least ps → AreInnerParents g' least ps
  parents_kept least ps a = record { enough = a.enough; few = a.few; inner = inner_kept ps a.inner; distinct = a.distinct }

  file_kept : (q : NodeId) → is_file_shape (shape_of g q) ≡ true → is_file_shape (shape_of g' q) ≡ true
  file_kept q h = ap (λ o. is_file_shape (shape_in o)) (file_stays q h) ∙ h

  -- the intervals of the keys of another file
  intervals_kept : (h : NodeId) → same_node h f ≡ false → (ys : List NodeId) (keys : List ℕ) → list_all (λ i. is_index_of_shape h (shape_of g i)) ys ≡ true
      → intervals_of g' ys keys ≡ intervals_of g ys keys
  intervals_kept h other [] keys all = refl
  intervals_kept h other (y ∷ ys) [] all = refl
  intervals_kept h other (y ∷ ys) (k ∷ ks) all =
      let t = and_both (is_index_of_shape h (shape_of g y)) (list_all (λ i. is_index_of_shape h (shape_of g i)) ys) all in
      let ne : y ≢ x = λ e. no (sym other ∙ ap (is_index_of_shape h) (sym shape ∙ ap (shape_of g) (sym e)) ∙ t.0) in
      let same = index_stays y ne (ap is_index_shape (index_of h (shape_of g y) t.0).3) in
      ap₂ (λ a b. a ∷ b) (interval_same g g' y k (ap shape_in same)) (intervals_kept h other ys ks t.1)

  pub record_parents_kept : (h : NodeId) (keys : List ℕ) → same_node h f ≡ false → record_parents g' h keys ≡ record_parents g h keys
  record_parents_kept h keys other =
      ap (λ xs. h ∷ xs) (ap (λ ys. intervals_of g' ys keys) (cut.indexes h)
      ∙ intervals_kept h other (indexes_of g h) keys (all_filter (λ i. is_index_of_shape h (shape_of g i)) (nodes g)))

  -- the parents of a record then are those of its keys
  pub record_settled : (h : NodeId) (keys : List ℕ) (ps : List NodeId) → ps ≡ record_parents g h keys
      → settled_parents g' f (Rec keys) ps ≡ record_parents g' h keys
  record_settled h keys ps e =
      ap (λ qs. settled_parents g' f (Rec keys) qs) e
      ∙ split (same_node h f)
      (λ t. ap (λ b. if b then record_parents g' f keys else record_parents g h keys) t ∙ ap (λ y. record_parents g' y keys) (sym (same_node-equal h f t)))
      (λ t. ap (λ b. if b then record_parents g' f keys else record_parents g h keys) t ∙ sym (record_parents_kept h keys t))

  module _ (fits : Fits g g' bs' is') where
    pub index_well : IsIndexNode g' x f bs' is'
    index_well = record {
      file = file_kept f its.file;
      few = subst (λ m. length bs' ≤ m) (sym cut.most_bounds) fits.few;
      rising = fits.rising;
      count = fits.count;
      distinct = fits.distinct;
      intervals = cut.listed;
    }

    -- what its kind requires of an old node
    well_by : (q : NodeId) (node : Node) (sh : Shape) (ps : List NodeId) → node_at g q ≡ Some node → node.shape ≡ sh → node.parents ≡ ps → q ≢ x
        → list_any (same_node q) is ≡ false → HasShape g q sh ps → HasShape g' q sh (settled_parents g' f sh ps)
    well_by q node Inner ps e es ep ne out h = parents_kept 0 ps h
    well_by q node (File adopted) ps e es ep ne out h = parents_kept 1 ps h
    well_by q node (Index h bs2 is2) ps e es ep ne out k = (
      parents_kept 1 ps k.0,
      record {
        file = file_kept h k.1.file;
        few = subst (λ m. length bs2 ≤ m) (sym cut.most_bounds) k.1.few;
        rising = k.1.rising;
        count = k.1.count;
        distinct = k.1.distinct;
        intervals = λ i l. interval_stays i q (record { key = i.key; shape = Interval; parents = q ∷ [] }) (k.1.intervals i l) refl refl ne;
      },
    )
    well_by q node Interval ps e es ep ne out h =
        let other : h.0 ≢ x = λ e2. no (sym out ∙ sym (ap (λ o. list_any (same_node q) (intervals_in o)) shape)
        ∙ sym (ap (λ y. list_any (same_node q) (intervals_in (shape_of g y))) e2) ∙ h.3) in
        let same = index_stays h.0 other h.2 in
        (h.0, h.1, ap (λ o. is_index_shape (shape_in o)) same ∙ h.2, ap (λ o. list_any (same_node q) (intervals_in (shape_in o))) same ∙ h.3)
    well_by q node (Rec keys) ps e es ep ne out h = (
      h.0,
      record {
        file_is = file_kept h.0 h.1.file_is;
        a_key_each = h.1.a_key_each ∙ sym (ap length (cut.indexes h.0));
        parents = record_settled h.0 keys ps h.1.parents;
      },
    )

    pub recut_well : (q : NodeId) (node : Node) → node_at g' q ≡ Some node → IsWellFormed g' q node
    recut_well q node e =
        split (same_node q x)
        (λ t.
        let is_x = same_node-equal q x t in
        let it : record { key = x.key; shape = Index f bs' is'; parents = parents_of g x } ≡ node = some_is (sym cut.here ∙ ap (node_at g') (sym is_x) ∙ e) in
        subst (IsWellFormed g' q) it (subst (λ y. HasShape g' y (Index f bs' is') (parents_of g x)) (sym is_x)
        (parents_kept 1 (parents_of g x) above, index_well)))
        (λ t.
        let ne = same_node-other q x t in
        split (list_any (same_node q) is')
        (λ l.
        let it : record { key = q.key; shape = Interval; parents = x ∷ [] } ≡ node = some_is (sym (cut.listed q l) ∙ e) in
        subst (IsWellFormed g' q) it (
          x,
          refl,
          ap (λ o. is_index_shape (shape_in o)) cut.here,
          ap (λ o. list_any (same_node q) (intervals_in (shape_in o))) cut.here ∙ l,
        ))
        (λ out.
        let was = cut.were q (ap is_some e) ne out in
        let old = live_node (node_at g q) was.0 in
        let it : record old.0 { parents = settled_parents g' f old.0.shape old.0.parents } ≡ node =
        some_is (sym (cut.others q was.0 ne was.1 ∙ ap (settled_node g' f) old.1) ∙ e) in
        subst (IsWellFormed g' q) it (well_by q old.0 old.0.shape old.0.parents old.1 refl refl ne was.1 (law.well_formed q old.0 old.1))))
      where
        above : AreInnerParents g 1 (parents_of g x)
        above =
            let there = shaped_node g x (Index f bs is) shape in
            subst (AreInnerParents g 1) (sym (ap parents_in there.1))
            (subst (λ sh. HasShape g x sh there.0.parents) there.2 (law.well_formed x there.0 there.1)).0

    inner_was : (q p : NodeId) → is_inner_shape (shape_of g' q) ≡ true → is_child g' p q ≡ true → is_child g p q ≡ true
    inner_was q p h c =
        let live = ap is_some (child_node g' q p c).1 in
        let ne : q ≢ x = λ e. no (sym (ap (λ y. is_inner_shape (shape_of g' y)) e ∙ ap (λ o. is_inner_shape (shape_in o)) cut.here) ∙ h) in
        let out : list_any (same_node q) is' ≡ false =
        not_true (list_any (same_node q) is') (λ l. no (sym (ap (λ o. is_inner_shape (shape_in o)) (cut.listed q l)) ∙ h)) in
        let was = cut.were q live ne out in
        let old = live_node (node_at g q) was.0 in
        let now = cut.others q was.0 ne was.1 ∙ ap (settled_node g' f) old.1 in
        let inner : is_inner_shape (Some old.0.shape) ≡ true = sym (ap (λ o. is_inner_shape (shape_in o)) now) ∙ h in
        sym (ap (λ o. list_any (same_node p) (parents_in o)) (inner_stays q (ap (λ o. is_inner_shape (shape_in o)) old.1 ∙ inner))) ∙ c

    pub recut_lawful : IsLawfulGraph g'
    recut_lawful = record {
      well_formed = recut_well;
      parents_live = λ q p c. (rises g' recut_well q p c).live;
      acyclic = acyclic_by_kinds g' recut_well g inner_was law.acyclic;
      keys_differ = fits.keys_differ;
      born = fits.born;
      seven_indexes = λ h. subst (λ (ys : List NodeId). length ys ≤ 7) (sym (cut.indexes h)) (law.seven_indexes h);
      room = subst (λ m. node_count g' ≤ m) (sym fits.most) fits.room;
      limit = subst (λ m. m ≤ 2 ^ 31) (sym fits.most) law.limit;
    }
