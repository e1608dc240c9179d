-- What the kinds require is kept if files, indexes, intervals and inner nodes stay as they were: one lemma for each kind.
use Rattle.gl_graph.proofs.Words.{[], and_both, ap, ap₂, are_inner, AreInnerParents, arith, Bool, bounds_in, cases_of, count_by-le-length, false, File, Graph}
use Rattle.gl_graph.proofs.Words.{HasShape, Index, indexes_of, Inner, Interval, interval, interval_at, interval_of, interval_place, intervals_in, intervals_of}
use Rattle.gl_graph.proofs.Words.{is_child, is_file_shape, is_index_of_shape, is_index_shape, is_inner_shape, is_interval_shape, is_live, is_record_shape}
use Rattle.gl_graph.proofs.Words.{IsIndexNode, IsLawfulGraph, IsWellFormed, length, List, list_all, list_any, list_any_at, no, no_node, Node, node_at, NodeId}
use Rattle.gl_graph.proofs.Words.{nodes, None, Option, or_elim, or_left, or_right, parents_in}
use Rattle.gl_graph.proofs.Words.{Rec, record_parents, refl, rules, same_node, same_node-equal, same_node-refl}
use Rattle.gl_graph.proofs.Words.{Shape, shape_in, shape_of, slice_get-get_or, slice_index_or, Some, subst, sym, true, ℕ, ◌||◌, ◌∙◌, ◌∷◌, ◌≡◌, ◌≤◌}
use Rattle.gl_graph.proofs.Look.{all_at, all_filter, shaped_node, child_node, there_is}

-- a living node that is no record
abbrev pub is_plain : Option Shape → Bool
is_plain None = false
is_plain (Some (Rec keys)) = false
is_plain (Some s) = true

pub inner_plain : (o : Option Shape) → is_inner_shape o ≡ true → is_plain o ≡ true
inner_plain o h = search rules

pub file_plain : (o : Option Shape) → is_file_shape o ≡ true → is_plain o ≡ true
file_plain o h = search rules

pub index_plain : (o : Option Shape) → is_index_shape o ≡ true → is_plain o ≡ true
index_plain o h = search rules

pub plain_live : (g : Graph) (q : NodeId) → is_plain (shape_of g q) ≡ true → is_live g q ≡ true
plain_live g q h = cases_of (node_at g q) (λ e. absurd (no (sym (ap (λ o. is_plain (shape_in o)) e) ∙ h))) (λ x e. there_is (node_at g q) x e)

pub rec_not_plain : (o : Option Shape) → is_record_shape o ≡ true → is_plain o ≡ true → ⊥
rec_not_plain o h k = search rules

-- an index of a file
pub index_of : (f : NodeId) (o : Option Shape) → is_index_of_shape f o ≡ true → (file : NodeId) × (bounds : List ℕ) × (intervals : List NodeId)
    × (o ≡ Some (Index file bounds intervals))
index_of f (Some (Index file bounds intervals)) h = (file, bounds, intervals, refl)
index_of f _ h = absurd (no h)

-- an index, with its bounds and its intervals
pub index_in : (o : Option Shape) → is_index_shape o ≡ true → (file : NodeId) × (o ≡ Some (Index file (bounds_in o) (intervals_in o)))
index_in (Some (Index file bounds intervals)) k = (file, refl)
index_in _ k = absurd (no k)

-- only an index has intervals
pub index_of_listed : (o : Option Shape) (i : NodeId) → list_any (same_node i) (intervals_in o) ≡ true → is_index_shape o ≡ true
index_of_listed (Some (Index file bounds intervals)) i h = refl
index_of_listed _ i h = absurd (no h)

-- a parent of a record is a file or an interval
abbrev pub file_or_interval : Option Shape → Bool
file_or_interval o = is_file_shape o || is_interval_shape o

-- the kind of a node of which this one is a child
abbrev pub parent_kind : Shape → Option Shape → Bool
parent_kind Interval o = is_index_shape o
parent_kind (Rec keys) o = file_or_interval o
parent_kind sh o = is_inner_shape o

kind_plain : (sh : Shape) (o : Option Shape) → parent_kind sh o ≡ true → is_plain o ≡ true
kind_plain Interval o h = index_plain o h
kind_plain (Rec keys) o h = search rules
kind_plain _ o h = inner_plain o h

-- the same shape, or files of which one may have a mark that the other does not have
pub record AreAlike (o' o : Option Shape) : Type 0 where
  pub inner : is_inner_shape o' ≡ is_inner_shape o
  pub file : is_file_shape o' ≡ is_file_shape o
  pub index : is_index_shape o' ≡ is_index_shape o
  pub bounds : bounds_in o' ≡ bounds_in o
  pub intervals : intervals_in o' ≡ intervals_in o

pub one_shape : (o' o : Option Shape) → o' ≡ o → AreAlike o' o
one_shape o' o e = record {
  inner = ap is_inner_shape e;
  file = ap is_file_shape e;
  index = ap is_index_shape e;
  bounds = ap bounds_in e;
  intervals = ap intervals_in e;
}

-- what the kinds of nodes that are no records read stays as it was
pub record PlainFrames (g g' : Graph) : Type 0 where
  pub shapes : (q : NodeId) → is_plain (shape_of g q) ≡ true → AreAlike (shape_of g' q) (shape_of g q)
  pub intervals : (q : NodeId) (node : Node) → node_at g q ≡ Some node → node.shape ≡ Interval → node_at g' q ≡ Some node
  pub bounds : g'.most_bounds ≡ g.most_bounds

-- what the kinds of the old nodes read stays as it was
pub record Frames (g g' : Graph) : Type 0 where
  pub shapes : (q : NodeId) → is_plain (shape_of g q) ≡ true → AreAlike (shape_of g' q) (shape_of g q)
  pub intervals : (q : NodeId) (node : Node) → node_at g q ≡ Some node → node.shape ≡ Interval → node_at g' q ≡ Some node
  pub indexes : (f r : NodeId) → is_record_shape (shape_of g r) ≡ true → is_child g f r ≡ true → indexes_of g' f ≡ indexes_of g f
  pub bounds : g'.most_bounds ≡ g.most_bounds

module _ (g : Graph) (law : IsLawfulGraph g) where
  -- the requirements of each kind
  pub index_node : (n f : NodeId) (bs : List ℕ) (is : List NodeId) → shape_of g n ≡ Some (Index f bs is) → IsIndexNode g n f bs is
  index_node n f bs is e =
      let there = shaped_node g n (Index f bs is) e in
      let well = law.well_formed n there.0 there.1 in
      (subst (λ sh. HasShape g n sh there.0.parents) there.2 well).1

  -- an index has a place for each bound, and one more: at each is one of its intervals
  module _ (n : NodeId) (index : is_index_shape (shape_of g n) ≡ true) where
    pub its_rules : (f : NodeId) × IsIndexNode g n f (bounds_in (shape_of g n)) (intervals_in (shape_of g n))
    its_rules = let i = index_in (shape_of g n) index in (i.0, index_node n i.0 (bounds_in (shape_of g n)) (intervals_in (shape_of g n)) i.1)

    pub at_each_place : (place : ℕ) → place ≤ length (bounds_in (shape_of g n)) → interval_at g n place ≡ Some (interval g n place)
    at_each_place place low = let count = its_rules.1.count in slice_get-get_or (intervals_in (shape_of g n)) place no_node (omega arith)

    pub interval_listed : (place : ℕ) → place ≤ length (bounds_in (shape_of g n))
        → list_any (same_node (interval g n place)) (intervals_in (shape_of g n)) ≡ true
    interval_listed place low =
        let count = its_rules.1.count in
        list_any_at (same_node (interval g n place)) (intervals_in (shape_of g n)) place no_node (omega arith) (same_node-refl (interval g n place))

  -- each interval of an index has it as its one parent
  pub each_interval : (n i : NodeId) → list_any (same_node i) (intervals_in (shape_of g n)) ≡ true
      → node_at g i ≡ Some (record { key = i.key; shape = Interval; parents = n ∷ [] })
  each_interval n i h = (its_rules n (index_of_listed (shape_of g n) i h)).1.intervals i h

  -- the interval of an index that contains a key
  pub interval_is : (f i : NodeId) (k : ℕ) → is_index_of_shape f (shape_of g i) ≡ true
      → node_at g (interval_of g i k) ≡ Some (record { key = (interval_of g i k).key; shape = Interval; parents = i ∷ [] })
  interval_is f i k h =
      let index : is_index_shape (shape_of g i) ≡ true = ap is_index_shape (index_of f (shape_of g i) h).3 in
      let low : interval_place (bounds_in (shape_of g i)) k ≤ length (bounds_in (shape_of g i)) = grind (arith, count_by-le-length) in
      each_interval i (interval_of g i k) (interval_listed i index (interval_place (bounds_in (shape_of g i)) k) low)

  -- the kind of a parent
  interval_among : (f p : NodeId) (is : List NodeId) (keys : List ℕ) → list_all (λ i. is_index_of_shape f (shape_of g i)) is ≡ true
      → list_any (same_node p) (intervals_of g is keys) ≡ true → is_interval_shape (shape_of g p) ≡ true
  interval_among f p [] keys h k = absurd (no k)
  interval_among f p (i ∷ is) [] h k = absurd (no k)
  interval_among f p (i ∷ is) (key ∷ keys) h k =
      let t = and_both _ _ h in
      or_elim _ _ k (λ here. let it = interval_is f i key t.0 in
      ap (λ q. is_interval_shape (shape_of g q)) (same_node-equal p _ here) ∙ ap (λ o. is_interval_shape (shape_in o)) it)
      (λ there. interval_among f p is keys t.1 there)

  pub parent_of_record : (f p : NodeId) (keys : List ℕ) → is_file_shape (shape_of g f) ≡ true → list_any (same_node p) (record_parents g f keys) ≡ true
      → file_or_interval (shape_of g p) ≡ true
  parent_of_record f p keys h k =
      or_elim _ _ k (λ here. or_left (is_file_shape (shape_of g p)) _ (ap (λ q. is_file_shape (shape_of g q)) (same_node-equal p f here) ∙ h))
      (λ there. or_right (is_file_shape (shape_of g p)) _ (interval_among f p (indexes_of g f) keys
      (all_filter (λ i. is_index_of_shape f (shape_of g i)) (nodes g)) there))

  pub parent_by : (sh : Shape) (ps : List NodeId) (q p : NodeId) → HasShape g q sh ps → list_any (same_node p) ps ≡ true → parent_kind sh (shape_of g p) ≡ true
  parent_by (Index f bs is) ps q p h k = all_at (λ x. is_inner_shape (shape_of g x)) ps p k h.0.inner
  parent_by Interval ps q p h k = grind arith
  parent_by (Rec keys) ps q p h k = parent_of_record h.0 p keys h.1.file_is (sym (ap (list_any (same_node p)) h.1.parents) ∙ k)
  parent_by _ ps q p h k = all_at (λ x. is_inner_shape (shape_of g x)) ps p k h.inner

  pub parent_is : (q p : NodeId) → is_child g p q ≡ true → (sh : Shape) × (shape_of g q ≡ Some sh) × (parent_kind sh (shape_of g p) ≡ true)
  parent_is q p h =
      let c = child_node g q p h in
      (c.0.shape, ap shape_in c.1, parent_by c.0.shape c.0.parents q p (law.well_formed q c.0 c.1) c.2)

  -- no record is a parent
  pub record_parent_plain : (f p : NodeId) (keys : List ℕ) → is_file_shape (shape_of g f) ≡ true
      → list_any (same_node p) (record_parents g f keys) ≡ true → is_plain (shape_of g p) ≡ true
  record_parent_plain f p keys h k = kind_plain (Rec keys) (shape_of g p) (parent_of_record f p keys h k)

  pub parent_plain : (n p : NodeId) → is_child g p n ≡ true → is_plain (shape_of g p) ≡ true
  parent_plain n p h = let k = parent_is n p h in kind_plain k.0 (shape_of g p) k.2

-- what its kind requires of a node is kept, of a record if its file keeps its indexes
module _ (g g' : Graph) (same : PlainFrames g g') where
  inner_same : (ps : List NodeId) → are_inner g ps ≡ true → are_inner g' ps ≡ true
  inner_same [] h = refl
  inner_same (p ∷ ps) h = grind (arith, inner_same ps)

  pub parents_same : (least : ℕ) (ps : List NodeId) → AreInnerParents g least ps → AreInnerParents g' least ps
  parents_same least ps a = record { enough = a.enough; few = a.few; inner = inner_same ps a.inner; distinct = a.distinct }

  pub index_same : (n f : NodeId) (bs : List ℕ) (is : List NodeId) → IsIndexNode g n f bs is → IsIndexNode g' n f bs is
  index_same n f bs is h = record {
    file = (same.shapes f (file_plain _ h.file)).file ∙ h.file;
    few = subst (λ m. length bs ≤ m) (sym same.bounds) h.few;
    rising = h.rising;
    count = h.count;
    distinct = h.distinct;
    intervals = λ i listed. same.intervals i _ (h.intervals i listed) refl;
  }

  pub intervals_same : (f : NodeId) (is : List NodeId) (keys : List ℕ) → list_all (λ i. is_index_of_shape f (shape_of g i)) is ≡ true
      → intervals_of g' is keys ≡ intervals_of g is keys
  intervals_same f [] keys h = refl
  intervals_same f (i ∷ is) [] h = refl
  intervals_same f (i ∷ is) (key ∷ keys) h =
      let t = and_both _ _ h in
      let shape = same.shapes i (ap is_plain (index_of f (shape_of g i) t.0).3) in
      ap₂ (λ x xs. x ∷ xs) (ap₂ (λ bs is'. slice_index_or is' (interval_place bs key) no_node) shape.bounds shape.intervals) (intervals_same f is keys t.1)

  pub record_parents_same : (f : NodeId) (keys : List ℕ) → indexes_of g' f ≡ indexes_of g f → record_parents g' f keys ≡ record_parents g f keys
  record_parents_same f keys e =
      ap (λ xs. f ∷ xs) (ap (λ is. intervals_of g' is keys) e
      ∙ intervals_same f (indexes_of g f) keys (all_filter (λ i. is_index_of_shape f (shape_of g i)) (nodes g)))

  pub shape_same : (sh : Shape) (ps : List NodeId) (n : NodeId)
      → ((f : NodeId) → is_record_shape (Some sh) ≡ true → list_any (same_node f) ps ≡ true → indexes_of g' f ≡ indexes_of g f)
      → HasShape g n sh ps → HasShape g' n sh ps
  shape_same Inner ps n indexes h = parents_same 0 ps h
  shape_same (File adopted) ps n indexes h = parents_same 1 ps h
  shape_same (Index f bs is) ps n indexes h = (parents_same 1 ps h.0, index_same n f bs is h.1)
  shape_same Interval ps n indexes h =
      let like = same.shapes h.0 (index_plain _ h.2) in (h.0, h.1, like.index ∙ h.2, ap (list_any (same_node n)) like.intervals ∙ h.3)
  shape_same (Rec keys) ps n indexes h =
      let all = indexes h.0 refl (ap (list_any (same_node h.0)) h.1.parents ∙ or_left (same_node h.0 h.0) _ (same_node-refl h.0)) in (
        h.0,
        record {
          file_is = (same.shapes h.0 (file_plain _ h.1.file_is)).file ∙ h.1.file_is;
          a_key_each = h.1.a_key_each ∙ sym (ap length all);
          parents = h.1.parents ∙ sym (record_parents_same h.0 keys all);
        },
      )

pub plain_of : (g g' : Graph) → Frames g g' → PlainFrames g g'
plain_of g g' same = record { shapes = same.shapes; intervals = same.intervals; bounds = same.bounds }

module _ (g g' : Graph) (law : IsLawfulGraph g) (same : Frames g g') where
  pub parents_kept : (least : ℕ) (ps : List NodeId) → AreInnerParents g least ps → AreInnerParents g' least ps
  parents_kept least ps a = parents_same g g' (plain_of g g' same) least ps a

  pub index_kept : (n f : NodeId) (bs : List ℕ) (is : List NodeId) → IsIndexNode g n f bs is → IsIndexNode g' n f bs is
  index_kept n f bs is h = index_same g g' (plain_of g g' same) n f bs is h

  pub record_parents_kept : (f : NodeId) (keys : List ℕ) → indexes_of g' f ≡ indexes_of g f → record_parents g' f keys ≡ record_parents g f keys
  record_parents_kept f keys e = record_parents_same g g' (plain_of g g' same) f keys e

  pub well_formed_kept : (n : NodeId) (node : Node) → node_at g n ≡ Some node → IsWellFormed g' n node
  well_formed_kept n node e =
      shape_same g g' (plain_of g g' same) node.shape node.parents n
      (λ f rec up. same.indexes f n (ap (λ o. is_record_shape (shape_in o)) e ∙ rec) (ap (λ o. list_any (same_node f) (parents_in o)) e ∙ up))
      (law.well_formed n node e)
