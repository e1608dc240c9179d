-- What the graph says is to be stored beside each node, and how that changes.
use Rattle.gl_graph.proofs.Words.{[], ap, are_inner, AreInnerParents, arith, Bool, born_node, children_of, cond, count_by-le-length}
use Rattle.gl_graph.proofs.Words.{Counts, due, false, File, Graph, HasShape, if◌then◌else◌, Index, indexes_of, Inner}
use Rattle.gl_graph.proofs.Words.{is_child, is_file_shape, is_index_of_shape, is_inner_shape, is_live, is_movable_shape, is_record_shape}
use Rattle.gl_graph.proofs.Words.{IsLawfulGraph, List, list_any, Lists, no, Node, node_at, NodeId, nodes, None, not_true, number_other, number_same}
use Rattle.gl_graph.proofs.Words.{Option, parents_in, parents_of, record_count, record_parents, refl, rules, same_node, Shape, shape_in, shape_of}
use Rattle.gl_graph.proofs.Words.{Some, sym, true, without_node, ℕ, ◌&&◌, ◌+◌, ◌-◌, ◌<◌, ◌^◌, ◌∙◌, ◌∷◌, ◌≡◌, ◌≢◌, ◌≤◌}
use Rattle.gl_graph.proofs.Born.{born_frames, old_same}
use Rattle.gl_graph.proofs.Counts.{count_none, nodes_live}
use Rattle.gl_graph.proofs.Held.{recounted, due_after}
use Rattle.gl_graph.proofs.KindRules.{Frames, plain_live, inner_plain, file_or_interval, parent_is, parent_kind, parent_of_record}
use Rattle.gl_graph.proofs.Look.{all_at, child_live, live_node, found_at, there_is}
use Rattle.gl_graph.proofs.NewNodes.{one_indexes}
use Rattle.gl_graph.proofs.Tally.{ones, count_where, count_born, count_changed}

-- the children and the records of a node, as tests of nodes
abbrev pub child_test : NodeId → Option Node → Bool
child_test n o = list_any (same_node n) (parents_in o)

abbrev pub record_test : NodeId → Option Node → Bool
record_test f o = is_record_shape (shape_in o) && list_any (same_node f) (parents_in o)

pub inner_due : (g : Graph) (n : NodeId) → is_inner_shape (shape_of g n) ≡ true → due g n ≡ Counts (children_of g n)
inner_due g n h = grind arith

pub file_due : (g : Graph) (n : NodeId) → is_file_shape (shape_of g n) ≡ true → due g n ≡ Lists (indexes_of g n) (record_count g n)
file_due g n h = grind arith

pub record_fixed : (o : Option Shape) → is_record_shape o ≡ true → is_movable_shape o ≡ false
record_fixed o k = search rules

pub not_among : (g : Graph) (ps : List NodeId) (n : NodeId) → are_inner g ps ≡ true → is_live g n ≡ false → list_any (same_node n) ps ≡ false
not_among g ps n inner dead = grind (arith, not_true, no, plain_live, inner_plain, all_at)

-- what is due beside a node that stays
pub due_stays : (g g' : Graph) (n : NodeId) (f : ℕ → ℕ) → node_at g' n ≡ node_at g n
    → (is_inner_shape (shape_of g n) ≡ true → children_of g' n ≡ f (children_of g n))
    → (is_file_shape (shape_of g n) ≡ true → (indexes_of g' n ≡ indexes_of g n) × (record_count g' n ≡ record_count g n))
    → recounted f (due g n) ≡ due g' n
due_stays g g' n f same inner file = grind (arith, due_after)

no_file : (o : Option Shape) → is_inner_shape o ≡ true → file_or_interval o ≡ true → ⊥
no_file o h k = search rules

module _ (g : Graph) (law : IsLawfulGraph g) where
  -- no inner node is a parent of an interval or a record
  pub no_inner_parent : (m q : NodeId) → is_inner_shape (shape_of g m) ≡ true → is_movable_shape (shape_of g q) ≡ false → is_child g m q ≡ false
  no_inner_parent m q inner fixed = grind (arith, not_true, parent_is, parent_kind, no_file, no)

  pub no_inner_among : (f m : NodeId) (keys : List ℕ) → is_file_shape (shape_of g f) ≡ true → is_inner_shape (shape_of g m) ≡ true
      → list_any (same_node m) (record_parents g f keys) ≡ false
  no_inner_among f m keys file inner = not_true _ (λ t. no_file (shape_of g m) inner (parent_of_record g law f m keys file t))

  -- the number of children fits, and one more
  pub children_fit : (n : NodeId) → children_of g n + 1 < 2 ^ 64
  children_fit n = grind (arith, count_by-le-length)

  pub dead_children : (n : NodeId) → is_live g n ≡ false → children_of g n ≡ 0
  dead_children n dead =
      count_none (is_live g) (is_child g n) (nodes g) (nodes_live g) (λ q live. not_true (is_child g n q) (λ t. no (sym dead ∙ law.parents_live q n t)))

  -- a node is born that is no index: what is due beside the others
  module _ (node : Node) (no_index : (f : NodeId) → is_index_of_shape f (Some node.shape) ≡ false) where
    pub born_same : Frames g (born_node g node)
    born_same = born_frames g law (node ∷ []) (λ f r h k. one_indexes g law node no_index f)

    pub children_born : (n : NodeId) → children_of (born_node g node) n ≡ children_of g n + ones (list_any (same_node n) node.parents)
    children_born n = count_born (child_test n) refl g node

    pub records_born : (f : NodeId) → record_count (born_node g node) f ≡ record_count g f + ones (record_test f (Some node))
    records_born f = count_born (record_test f) refl g node

    pub due_old : (f : ℕ → ℕ) (n : NodeId) → is_live g n ≡ true
        → (is_inner_shape (shape_of g n) ≡ true → f (children_of g n) ≡ children_of g n + ones (list_any (same_node n) node.parents))
        → (is_file_shape (shape_of g n) ≡ true → record_test n (Some node) ≡ false) → recounted f (due g n) ≡ due (born_node g node) n
    due_old f n live inner file =
        due_stays g (born_node g node) n f (old_same g law (node ∷ []) n live) (λ i. children_born n ∙ sym (inner i)) (λ h. (
          one_indexes g law node no_index n,
          (let all = records_born n in let none : ones (record_test n (Some node)) ≡ 0 = ap ones (file h) in omega arith),
        ))

  -- a node goes, and no other one that passes
  pub count_without : (t : Option Node → Bool) (none : t None ≡ false) (g' : Graph) (r : NodeId) → is_live g r ≡ true → g'.births ≡ g.births
      → g'.at r.birth ≡ None → ((b : ℕ) → b ≢ r.birth → t (g'.at b) ≡ t (g.at b))
      → count_where t none g ≡ count_where t none g' + ones (t (node_at g r))
  count_without t none g' r live births gone same = grind (arith, live_node, found_at, there_is, count_changed)

  pub count_left : (t : Option Node → Bool) (none : t None ≡ false) (r : NodeId) → is_live g r ≡ true
      → count_where t none g ≡ count_where t none (without_node g r) + ones (t (node_at g r))
  count_left t none r live =
      count_without t none (without_node g r) r live refl (ap (λ x. if x then None else g.at r.birth) (number_same r.birth r.birth refl))
      (λ b ne. ap (λ x. t (if x then None else g.at b)) (number_other b r.birth ne))

  -- a parent has a child
  pub some_child : (m n : NodeId) → is_child g m n ≡ true → 1 ≤ children_of g m
  some_child m n c =
      let live = child_live g n m c in
      let all : children_of g m ≡ count_where (child_test m) refl (without_node g n) + ones (is_child g m n) = count_left (child_test m) refl n live in
      let one : ones (is_child g m n) ≡ 1 = ap ones c in
      omega arith

  -- the parents of a movable node: different inner nodes, and not itself
  module _ (n : NodeId) (movable : is_movable_shape (shape_of g n) ≡ true) where
    pub own_parents : AreInnerParents g 0 (parents_of g n)
    own_parents = by (node_at g n) refl
      where
        any : (least : ℕ) (ps : List NodeId) → AreInnerParents g least ps → AreInnerParents g 0 ps
        any least ps a = record { enough = omega arith; few = a.few; inner = a.inner; distinct = a.distinct }

        shaped : (sh : Shape) (ps : List NodeId) → is_movable_shape (Some sh) ≡ true → HasShape g n sh ps → AreInnerParents g 0 ps
        shaped Inner ps m k = k
        shaped (File adopted) ps m k = any 1 ps k
        shaped (Index f bs is) ps m k = any 1 ps k.0
        shaped _ ps m k = absurd (no m)

        by : (o : Option Node) → node_at g n ≡ o → AreInnerParents g 0 (parents_in o)
        by None e = absurd (no (sym (ap (λ o. is_movable_shape (shape_in o)) e) ∙ movable))
        by (Some x) e = shaped x.shape x.parents (sym (ap (λ o. is_movable_shape (shape_in o)) e) ∙ movable) (law.well_formed n x e)

    pub not_its_own : list_any (same_node n) (parents_of g n) ≡ false
    not_its_own = not_true _ (λ t. law.acyclic n n [] (t, refl))

-- a number with one more or less
pub one_more : (b : Bool) (k : ℕ) → (cond b (k + 1) k) ≡ k + ones b
one_more true k = refl
one_more false k = omega arith

pub one_less : (b : Bool) (k m : ℕ) → m + ones b ≡ k → (cond b (k - 1) k) ≡ m
one_less true k m e = omega arith
one_less false k m e = omega arith

pub one_moved : (a b : Bool) (k m : ℕ) → (a ≡ true → 1 ≤ k) → m + ones a ≡ k + ones b → m ≡ cond b (cond a (k - 1) k + 1) (cond a (k - 1) k)
one_moved true true k m some e = let low = some refl in omega arith
one_moved true false k m some e = let low = some refl in omega arith
one_moved false true k m some e = omega arith
one_moved false false k m some e = omega arith
