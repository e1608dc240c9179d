-- A node is removed with its children: what remains, and that it is lawful. For crates that read a graph after a drop.
use Rattle.gl_graph.proofs.Words.{[], and-false, and_both, ap, ap₂, are_distinct, are_inner, AreInnerParents, arith, Bool, both, bounds_in, cases_of, clash}
use Rattle.gl_graph.proofs.Words.{false, File, filter, fun_ext, Graph, has_records, HasShape, if◌then◌else◌, Index, indexes_of, Inner, Interval, interval_at}
use Rattle.gl_graph.proofs.Words.{interval_of, interval_place, intervals_in, intervals_of, is_child, is_file_shape, is_in_use, is_index_of_shape}
use Rattle.gl_graph.proofs.Words.{is_index_shape, is_inner_shape, is_interval_shape, is_live, is_movable_shape, is_record_of, is_record_shape, is_shape_in_use}
use Rattle.gl_graph.proofs.Words.{is_some, IsLawfulGraph, length, List, list_all, list_any, nat_lt, nat_tests, no, no_node, Node, node_at, node_count, NodeId}
use Rattle.gl_graph.proofs.Words.{nodes, None, none_some, not, not_true, Option, or-false, or_elim, or_left, or_right, parents_in, parents_of, Rec}
use Rattle.gl_graph.proofs.Words.{record_count, refl, rules, same_node, same_node-equal, same_node-refl, same_node-sym, Shape, shape_in, shape_of}
use Rattle.gl_graph.proofs.Words.{slice_index_or, Some, split, suc, sym, true, with_key, without_branch, without_node, ℕ, ◌&&◌, ◌+◌, ◌==◌, ◌||◌, ◌∙◌, ◌∷◌, ◌≡◌}
use Rattle.gl_graph.proofs.Words.{◌≤◌}
use Rattle.gl_graph.proofs.Look.{all_at, all_filter, finds, listed_at, live_node, child_live, child_node, place_listed, there_is}
use Rattle.gl_graph.proofs.KindRules.{is_plain, inner_plain, file_plain, index_plain, plain_live, index_of, index_node, interval_is, each_interval}
use Rattle.gl_graph.proofs.KindRules.{parent_is, parent_by, parent_kind}
use Rattle.gl_graph.proofs.Listings.{kept, filter_of_map, map_fewer}
use Rattle.gl_graph.proofs.Routes.{acyclic_fewer}
use Rattle.gl_graph.proofs.RouteLengths.{listed}
use Rattle.gl_graph.proofs.Moved.{some_at}
use Rattle.gl_graph.proofs.Distinct.{any_filtered, filter_distinct, index_listed, nodes_distinct, same_length}
use Rattle.gl_graph.proofs.Tally.{picked, list_same, sifted, count_kept}
use Rattle.gl_graph.proofs.Unrefused.{or_no}

no_interval_inner : (o : Option Shape) → is_inner_shape o ≡ true → is_interval_shape o ≡ false
no_interval_inner o h = search rules

pub no_interval_file : (o : Option Shape) → is_file_shape o ≡ true → is_interval_shape o ≡ false
no_interval_file o h = search rules

no_interval_index : (o : Option Shape) → is_index_shape o ≡ true → is_interval_shape o ≡ false
no_interval_index o h = search rules

pub movable_no_interval : (o : Option Shape) → is_movable_shape o ≡ true → is_interval_shape o ≡ false
movable_no_interval o h = search rules

pub movable_no_record : (o : Option Shape) → is_movable_shape o ≡ true → is_record_shape o ≡ false
movable_no_record o h = search rules

pub movable_live : (g : Graph) (n : NodeId) → is_movable_shape (shape_of g n) ≡ true → is_live g n ≡ true
movable_live g n h = cases_of (node_at g n) (λ e. absurd (no (sym (ap (λ o. is_movable_shape (shape_in o)) e) ∙ h))) (λ x e. there_is (node_at g n) x e)

-- a filter that each element passes
filter_whole : (q p : NodeId → Bool) (xs : List NodeId) → list_all q xs ≡ true → ((x : NodeId) → q x ≡ true → p x ≡ true) → filter p xs ≡ xs
filter_whole q p [] all each = refl
filter_whole q p (x ∷ xs) all each = grind (arith, filter_whole q p xs)

module _ (g : Graph) (n : NodeId) where
  -- the node with this birth is removed
  abbrev pub gone : ℕ → Bool
  gone b = (b == n.birth) || list_any (same_node n) (parents_in (g.at b))

  abbrev pub left : Graph
  left = without_branch g n

  pub at_gone : (b : ℕ) → gone b ≡ true → left.at b ≡ None
  at_gone b e = ap (λ x. if x then None else g.at b) e

  pub at_beside : (b : ℕ) → gone b ≡ false → left.at b ≡ g.at b
  at_beside b e = ap (λ x. if x then None else g.at b) e

  pub left_same : (q : NodeId) → gone q.birth ≡ false → node_at left q ≡ node_at g q
  left_same q e = ap (with_key q.key) (at_beside q.birth e)

  -- a remaining node was there before
  pub left_birth : (q : NodeId) (x : Node) → node_at left q ≡ Some x → gone q.birth ≡ false
  left_birth q x e = not_true (gone q.birth) (λ t. none_some (sym (ap (with_key q.key) (at_gone q.birth t)) ∙ e))

  pub left_was : (q : NodeId) (x : Node) → node_at left q ≡ Some x → node_at g q ≡ Some x
  left_was q x e = sym (left_same q (left_birth q x e)) ∙ e

  pub left_was_live : (q : NodeId) → is_live left q ≡ true → is_live g q ≡ true
  left_was_live q h = let x = live_node (node_at left q) h in ap is_some (left_was q x.0 x.1)

  pub left_was_child : (p q : NodeId) → is_child left p q ≡ true → is_child g p q ≡ true
  left_was_child p q h = grind arith

  -- a remaining node is as it was
  pub left_is : (q : NodeId) → is_live left q ≡ true → node_at left q ≡ node_at g q
  left_is q h = let x = live_node (node_at left q) h in left_same q (left_birth q x.0 x.1)

  pub left_shape : (q : NodeId) → is_live left q ≡ true → shape_of left q ≡ shape_of g q
  left_shape q h = ap shape_in (left_is q h)

  -- there are no more nodes than there were
  pub left_fewer : node_count left ≤ node_count g
  left_fewer = grind (arith, map_fewer, at_gone, at_beside)

  module _ (live : is_live g n ≡ true) where
    -- of the living nodes, the node and its children are removed
    pub gone_is : (q : NodeId) → is_live g q ≡ true → gone q.birth ≡ (same_node n q || is_child g n q)
    gone_is q h = grind arith

    -- a node that is neither this one nor a child of it stays
    pub stays_left : (q : NodeId) → is_live g q ≡ true → same_node n q ≡ false → is_child g n q ≡ false → node_at left q ≡ node_at g q
    stays_left q h other apart = left_same q (gone_is q h ∙ ap₂ (λ a b. a || b) other apart)

    -- a node lives then exactly if it lived, is not the one, and is no child of it
    pub left_live : (q : NodeId) → is_live left q ≡ (is_live g q && not (same_node n q || is_child g n q))
    left_live q = grind arith

    -- the remaining nodes, in order of birth
    pub nodes_left : nodes left ≡ filter (λ q. not (same_node n q || is_child g n q)) (nodes g)
    nodes_left = grind (arith, filter_of_map, kept, at_gone, at_beside, finds)

  -- without children the node is removed alone
  pub alone_is : ((q : NodeId) → is_child g n q ≡ false) → without_branch g n ≡ without_node g n
  alone_is none =
      let same : left.at ≡ (without_node g n).at = fun_ext (λ b. ap (λ x. if (b == n.birth) || x then None else g.at b) (by b (g.at b) refl)
      ∙ ap (λ x. if x then None else g.at b) (or-false (b == n.birth))) in
      λ i. record { at = same i; births = g.births; most = g.most; most_bounds = g.most_bounds }
    where
      by : (b : ℕ) (o : Option Node) → g.at b ≡ o → list_any (same_node n) (parents_in (g.at b)) ≡ false
      by b None e = ap (λ o. list_any (same_node n) (parents_in o)) e
      by b (Some x) e =
          ap (λ o. list_any (same_node n) (parents_in o)) (e ∙ sym (finds x.key (g.at b) x e refl)) ∙ none (record { key = x.key; birth = b })

-- the children of an index are its intervals
module _ (g : Graph) (law : IsLawfulGraph g) (n : NodeId) where
  pub interval_child : (q : NodeId) → list_any (same_node q) (intervals_in (shape_of g n)) ≡ true → is_child g n q ≡ true
  interval_child q h = ap (λ o. list_any (same_node n) (parents_in o)) (each_interval g law n q h) ∙ or_left _ _ (same_node-refl n)

  pub child_interval : (q : NodeId) → is_child g n q ≡ true → is_interval_shape (shape_of g q) ≡ true
      → list_any (same_node q) (intervals_in (shape_of g n)) ≡ true
  child_interval q c kind =
      let node = child_node g q n c in
      by node.0.shape node.0.parents (sym (ap (λ o. is_interval_shape (shape_in o)) node.1) ∙ kind) (law.well_formed q node.0 node.1) node.2
    where
      by : (sh : Shape) (ps : List NodeId) → is_interval_shape (Some sh) ≡ true → HasShape g q sh ps → list_any (same_node n) ps ≡ true
          → list_any (same_node q) (intervals_in (shape_of g n)) ≡ true
      by Interval ps i h l = grind arith
      by _ ps i h l = absurd (no i)

-- a movable node is removed with its children, if it is not in use
module _ (g : Graph) (law : IsLawfulGraph g) (n : NodeId) (movable : is_movable_shape (shape_of g n) ≡ true) (free : is_in_use g n ≡ false) where
  pub live : is_live g n ≡ true
  live = movable_live g n movable

  -- a child of it is an interval, and it is an index
  child_of : (o : Option Shape) → shape_of g n ≡ o → (q : NodeId) → is_child g n q ≡ true
      → (is_index_shape o ≡ true) × (is_interval_shape (shape_of g q) ≡ true)
  child_of (Some Inner) e q c =
      absurd (clash (some_at (is_child g n) (nodes g) q (listed g law q (child_live g q n c)) c) (sym (ap (is_shape_in_use g n) e) ∙ free))
  child_of (Some (File adopted)) e q c = let p = parent_is g law q n c in absurd (by p.0 p.1 (ap (parent_kind p.0) (sym e) ∙ p.2))
    where
      by : (sh : Shape) → shape_of g q ≡ Some sh → parent_kind sh (Some (File adopted)) ≡ true → ⊥
      by (Rec keys) s h =
          clash (some_at (is_record_of g n) (nodes g) q (listed g law q (child_live g q n c)) (both _ _ (ap is_record_shape s) c))
          (or_no (has_records g n) _ (sym (ap (is_shape_in_use g n) e) ∙ free)).0
      by _ s h = no h
  child_of (Some (Index f bs is)) e q c = grind (arith, parent_is, parent_kind, no)
  child_of _ e q c = absurd (no (sym (ap is_movable_shape e) ∙ movable))

  -- the children are intervals
  pub children_are : (q : NodeId) → is_child g n q ≡ true → (is_index_shape (shape_of g n) ≡ true) × (is_interval_shape (shape_of g q) ≡ true)
  children_are q c = child_of (shape_of g n) refl q c

  -- and each interval is a child
  pub child_is : (q : NodeId) → is_child g n q ≡ list_any (same_node q) (intervals_in (shape_of g n))
  child_is q =
      split (is_child g n q) (λ c. c ∙ sym (child_interval g law n q c (children_are q c).1))
      (λ c. c ∙ sym (not_true _ (λ t. no (sym c ∙ interval_child g law n q t))))

  -- by their places
  pub child_at : (q : NodeId) → is_child g n q ≡ true → (place : ℕ) × (interval_at g n place ≡ Some q)
  child_at q c = place_listed (intervals_in (shape_of g n)) q (sym (child_is q) ∙ c)

  pub at_child : (place : ℕ) (q : NodeId) → interval_at g n place ≡ Some q → is_child g n q ≡ true
  at_child place q e = child_is q ∙ listed_at (intervals_in (shape_of g n)) place q e

  -- a node that is no index has no children
  pub no_children : is_index_shape (shape_of g n) ≡ false → (q : NodeId) → is_child g n q ≡ false
  no_children h q = not_true (is_child g n q) (λ c. no (sym h ∙ (children_are q c).0))

  pub no_branch : is_index_shape (shape_of g n) ≡ false → without_branch g n ≡ without_node g n
  no_branch h = alone_is g n (no_children h)

  -- a node that is no interval stays, unless it is the node
  other_stays : (q : NodeId) → is_live g q ≡ true → is_interval_shape (shape_of g q) ≡ false → same_node n q ≡ false → node_at (left g n) q ≡ node_at g q
  other_stays q h kind other = grind (arith, not_true, no, children_are)

  -- it is the file of no index
  no_file : (i f : NodeId) (bs : List ℕ) (is : List NodeId) → shape_of g i ≡ Some (Index f bs is) → same_node n f ≡ false
  no_file i f bs is e =
      not_true (same_node n f) (λ t.
      let node = index_node g law i f bs is e in
      let same : n ≡ f = same_node-equal n f t in
      let file : is_file_shape (shape_of g n) ≡ true = ap (λ q. is_file_shape (shape_of g q)) same ∙ node.file in
      let listed_there = index_listed g law n i (plain_live g i (ap is_plain e))
      (ap (is_index_of_shape n) e ∙ t) in
      none_there (indexes_of g n) (unlisted (shape_of g n) file free) listed_there)
    where
      unlisted : (o : Option Shape) → is_file_shape o ≡ true → is_shape_in_use g n o ≡ false → nat_lt 0 (length (indexes_of g n)) ≡ false
      unlisted (Some (File adopted)) h k = (or_no (has_records g n) (nat_lt 0 (length (indexes_of g n))) k).1
      unlisted _ h k = absurd (no h)

      none_there : (is : List NodeId) → nat_lt 0 (length is) ≡ false → list_any (same_node i) is ≡ true → ⊥
      none_there [] h l = no l
      none_there (x ∷ is) h l = let some : nat_lt 0 (suc (length is)) ≡ true = grind (arith, nat_tests) in no (sym h ∙ some)

  -- and no index of the file of a record
  no_index : (f r : NodeId) → is_record_shape (shape_of g r) ≡ true → is_child g f r ≡ true → is_index_of_shape f (shape_of g n) ≡ false
  no_index f r rec child =
      not_true (is_index_of_shape f (shape_of g n)) (λ t.
      let index = index_of f (shape_of g n) t in
      let same : f ≡ index.0 = same_node-equal f index.0 (sym (ap (is_index_of_shape f) index.3) ∙ t) in
      let there = some_at (is_record_of g f) (nodes g) r (listed g law r (child_live g r f child)) (both _ _ rec child) in
      clash (ap (has_records g) (sym same) ∙ there) (sym (ap (is_shape_in_use g n) index.3) ∙ free))

  -- the indexes of a file are those that it had, without the node
  pub indexes_left : (f : NodeId) → indexes_of (left g n) f ≡ filter (λ i. not (same_node n i)) (indexes_of g f)
  indexes_left f =
      list_same (λ q o. is_index_of_shape f (shape_in o) && not (same_node n q)) (λ q o. is_index_of_shape f (shape_in o)) g (left g n) refl (λ b.
      by b (g.at b) refl)
      ∙ sym (sifted (λ q. is_index_of_shape f (shape_of g q)) (λ q. not (same_node n q)) (nodes g))
    where
      index_no_interval : (o : Option Shape) → is_interval_shape o ≡ true → is_index_of_shape f o ≡ false
      index_no_interval o h = search rules

      by : (b : ℕ) (o : Option Node) → g.at b ≡ o → picked (λ q o'. is_index_of_shape f (shape_in o')) b ((left g n).at b)
          ≡ picked (λ q o'. is_index_of_shape f (shape_in o') && not (same_node n q)) b (g.at b)
      by b None e = grind arith
      by b (Some x) e =
          let there : node_at g (record { key = x.key; birth = b }) ≡ Some x = finds x.key (g.at b) x e refl in
          let is = gone_is g n live (record { key = x.key; birth = b }) (ap is_some there) in
          split (gone g n b) (λ t. ap (picked (λ q o'. is_index_of_shape f (shape_in o')) b) (at_gone g n b t)
          ∙ sym (ap (picked (λ q o'. is_index_of_shape f (shape_in o') && not (same_node n q)) b) e
          ∙ ap (λ z. if z then Some (record { key = x.key; birth = b }) else None)
          (or_elim (same_node n (record { key = x.key; birth = b })) (is_child g n (record { key = x.key; birth = b })) (sym is ∙ t)
          (λ same. ap (λ z. is_index_of_shape f (Some x.shape) && not z) same ∙ and-false (is_index_of_shape f (Some x.shape)))
          (λ c. ap (λ z. z && not (same_node n (record { key = x.key; birth = b })))
          (index_no_interval (Some x.shape) (sym (ap (λ o. is_interval_shape (shape_in o)) there) ∙ (children_are (record { key = x.key; birth = b }) c).1))))))
          (λ t. grind arith)

  -- another file keeps its indexes
  pub other_indexes : (f : NodeId) → is_index_of_shape f (shape_of g n) ≡ false → indexes_of (left g n) f ≡ indexes_of g f
  other_indexes f other =
      indexes_left f
      ∙ filter_whole (λ i. is_index_of_shape f (shape_of g i)) (λ i. not (same_node n i)) (indexes_of g f)
      (all_filter (λ i. is_index_of_shape f (shape_of g i)) (nodes g))
      (λ x h. ap not (not_true (same_node n x) (λ t. no (sym other ∙ ap (λ q. is_index_of_shape f (shape_of g q)) (same_node-equal n x t) ∙ h))))

  -- another index stays, with its intervals
  pub index_stays : (i : NodeId) → is_index_shape (shape_of g i) ≡ true → same_node n i ≡ false → node_at (left g n) i ≡ node_at g i
  index_stays i h other = other_stays i (plain_live g i (index_plain _ h)) (no_interval_index _ h) other

  pub interval_stays : (i q : NodeId) → list_any (same_node q) (intervals_in (shape_of g i)) ≡ true → same_node n i ≡ false
      → node_at (left g n) q ≡ node_at g q
  interval_stays i q h other =
      let it = each_interval g law i q h in
      let not_n : same_node n q ≡ false = grind arith in
      stays_left g n live q (ap is_some it) not_n (ap (λ o. list_any (same_node n) (parents_in o)) it ∙ ap (λ b. b || false) other)

  -- if a child of it is a parent of a record, it is an index of the file of the record
  index_above : (f p : NodeId) (is : List NodeId) (keys : List ℕ) → list_all (λ i. is_index_of_shape f (shape_of g i)) is ≡ true
      → list_any (same_node p) (intervals_of g is keys) ≡ true → is_child g n p ≡ true → is_index_of_shape f (shape_of g n) ≡ true
  index_above f p [] keys h k c = absurd (no k)
  index_above f p (i ∷ is) [] h k c = absurd (no k)
  index_above f p (i ∷ is) (key ∷ keys) h k c =
      let t = and_both (is_index_of_shape f (shape_of g i)) (list_all (λ i'. is_index_of_shape f (shape_of g i')) is) h in
      or_elim (same_node p (interval_of g i key)) (list_any (same_node p) (intervals_of g is keys)) k (λ here.
      let it = interval_is g law f i key t.0 in
      let one : (same_node n i || false) ≡ true = grind arith in
      or_elim (same_node n i) false one (λ e. ap (λ q. is_index_of_shape f (shape_of g q)) (same_node-equal n i e) ∙ t.0) (λ none. absurd (no none)))
      (λ there. index_above f p is keys t.1 there c)

  -- no child of it is a parent
  pub apart_from : (q p : NodeId) → is_child g p q ≡ true → is_child g n p ≡ true → ⊥
  apart_from q p h c =
      let node = child_node g q p h in
      by node.0.shape node.0.parents (ap shape_in node.1) (ap parents_in node.1) (law.well_formed q node.0 node.1) node.2
    where
      by : (sh : Shape) (ps : List NodeId) → shape_of g q ≡ Some sh → parents_of g q ≡ ps → HasShape g q sh ps → list_any (same_node p) ps ≡ true → ⊥
      by Interval ps s above k l = no (sym (no_interval_index (shape_of g p) (parent_by g law Interval ps q p k l)) ∙ (children_are p c).1)
      by (Rec keys) ps s above k l =
          let child : is_child g k.0 q ≡ true = ap (list_any (same_node k.0)) (above ∙ k.1.parents) ∙ or_left _ _ (same_node-refl k.0) in
          or_elim (same_node p k.0) (list_any (same_node p) (intervals_of g (indexes_of g k.0) keys)) (sym (ap (list_any (same_node p)) k.1.parents) ∙ l)
          (λ here. no (sym (no_interval_file (shape_of g p) (ap (λ m. is_file_shape (shape_of g m)) (same_node-equal p k.0 here) ∙ k.1.file_is))
          ∙ (children_are p c).1)) (λ there. clash (index_above k.0 p (indexes_of g k.0) keys
          (all_filter (λ i. is_index_of_shape k.0 (shape_of g i)) (nodes g)) there c) (no_index k.0 q (ap is_record_shape s) child))
      by sh ps s above k l = no (sym (no_interval_inner (shape_of g p) (parent_by g law sh ps q p k l)) ∙ (children_are p c).1)

  -- the remaining parents of a list
  pub inner_left : (ps : List NodeId) → are_inner g ps ≡ true → list_any (same_node n) ps ≡ false → are_inner (left g n) ps ≡ true
  inner_left [] h k = refl
  inner_left (p ∷ ps) h k = grind (arith, inner_left ps, and_both, or_no, both, other_stays, plain_live, inner_plain, no_interval_inner)

  parents_left : (least : ℕ) (ps : List NodeId) → AreInnerParents g least ps → list_any (same_node n) ps ≡ false → AreInnerParents (left g n) least ps
  parents_left least ps a k = record { enough = a.enough; few = a.few; inner = inner_left ps a.inner k; distinct = a.distinct }

  file_left : (f : NodeId) → is_file_shape (shape_of g f) ≡ true → same_node n f ≡ false → is_file_shape (shape_of (left g n) f) ≡ true
  file_left f h other = grind (arith, other_stays, plain_live, file_plain, no_interval_file)

  intervals_left : (f : NodeId) (is : List NodeId) (keys : List ℕ) → list_all (λ i. is_index_of_shape f (shape_of g i)) is ≡ true
      → is_index_of_shape f (shape_of g n) ≡ false → intervals_of (left g n) is keys ≡ intervals_of g is keys
  intervals_left f [] keys h other = refl
  intervals_left f (i ∷ is) [] h other = refl
  intervals_left f (i ∷ is) (key ∷ keys) h other =
      let t = and_both (is_index_of_shape f (shape_of g i)) (list_all (λ i'. is_index_of_shape f (shape_of g i')) is) h in
      let not_n : same_node n i ≡ false = grind arith in
      let stays = index_stays i (ap is_index_shape (index_of f (shape_of g i) t.0).3) not_n in
      ap₂ (λ x xs. x ∷ xs) (ap (λ o. slice_index_or (intervals_in (shape_in o)) (interval_place (bounds_in (shape_in o)) key) no_node) stays)
      (intervals_left f is keys t.1 other)

  -- what its kind requires of a remaining node
  shape_asks : (sh : Shape) (ps : List NodeId) (q : NodeId) (node : Node) → node_at (left g n) q ≡ Some node → node.shape ≡ sh → node.parents ≡ ps
      → list_any (same_node n) ps ≡ false → HasShape g q sh ps → HasShape (left g n) q sh ps
  shape_asks Inner ps q node e es ep k h = parents_left 0 ps h k
  shape_asks (File adopted) ps q node e es ep k h = parents_left 1 ps h k
  shape_asks (Index f bs is) ps q node e es ep k h =
      let was = left_was g n q node e in
      let shape : shape_of g q ≡ Some (Index f bs is) = ap shape_in was ∙ ap Some es in
      let other : same_node n q ≡ false =
      (or_no (same_node n q) (is_child g n q) (sym (gone_is g n live q (ap is_some was)) ∙ left_birth g n q node e)).0 in (
        parents_left 1 ps h.0 k,
        record {
          file = file_left f h.1.file (no_file q f bs is shape);
          few = h.1.few;
          rising = h.1.rising;
          count = h.1.count;
          distinct = h.1.distinct;
          intervals = λ i listed'. interval_stays q i (ap (λ o. list_any (same_node i) (intervals_in o)) shape ∙ listed') other ∙ h.1.intervals i listed';
        },
      )
  shape_asks Interval ps q node e es ep k h =
      let stays = index_stays h.0 h.2 (or_no (same_node n h.0) false (sym (ap (list_any (same_node n)) h.1) ∙ k)).0 in (
        h.0,
        h.1,
        ap (λ o. is_index_shape (shape_in o)) stays ∙ h.2,
        ap (λ o. list_any (same_node q) (intervals_in (shape_in o))) stays ∙ h.3,
      )
  shape_asks (Rec keys) ps q node e es ep k h =
      let was = left_was g n q node e in
      let other : same_node n h.0 ≡ false = (or_no (same_node n h.0) _ (sym (ap (list_any (same_node n)) h.1.parents) ∙ k)).0 in
      let child : is_child g h.0 q ≡ true = grind arith in
      let rec : is_record_shape (shape_of g q) ≡ true = ap (λ o. is_record_shape (shape_in o)) was ∙ ap (λ x. is_record_shape (Some x)) es in
      let apart = no_index h.0 q rec child in
      let indexes = other_indexes h.0 apart in (
        h.0,
        record {
          file_is = file_left h.0 h.1.file_is other;
          a_key_each = h.1.a_key_each ∙ ap length (sym indexes);
          parents = h.1.parents ∙ sym (ap (λ xs. h.0 ∷ xs) (ap (λ is. intervals_of (left g n) is keys) indexes
              ∙ intervals_left h.0 (indexes_of g h.0) keys (all_filter (λ i. is_index_of_shape h.0 (shape_of g i)) (nodes g)) apart));
        },
      )

  -- the remaining graph is lawful
  pub left_lawful : IsLawfulGraph (left g n)
  left_lawful = record {
    well_formed = grind (arith, left_was, or_no, gone_is, live, left_birth, shape_asks);
    parents_live = parents_there;
    acyclic = acyclic_fewer g (left g n) (left_was_child g n) law.acyclic;
    keys_differ = λ a b h k e. law.keys_differ a b (left_was_live g n a h) (left_was_live g n b k) e;
    born = λ b h. split (gone g n b) (λ e. absurd (no (sym (ap is_some (at_gone g n b e)) ∙ h))) (λ e. law.born b (sym (ap is_some (at_beside g n b e)) ∙ h));
    seven_indexes = λ f. (let few = law.seven_indexes f in let less = filter_few (λ i. not (same_node n i)) (indexes_of g f) in
        let same : length (indexes_of (left g n) f) ≡ length (filter (λ i. not (same_node n i)) (indexes_of g f)) = ap length (indexes_left f) in omega arith);
    room = (let few = left_fewer g n in let room = law.room in omega arith);
    limit = law.limit;
  }
    where
      filter_few : (p : NodeId → Bool) (xs : List NodeId) → length (filter p xs) ≤ length xs
      filter_few p [] = omega arith
      filter_few p (x ∷ xs) = grind (arith, filter_few p xs)

      parents_there : (q p : NodeId) → is_child (left g n) p q ≡ true → is_live (left g n) p ≡ true
      parents_there q p h = grind (arith, left_was_child, live_node, child_live, left_was, not_true, same_node-equal, apart_from)

  -- the removed nodes
  abbrev removed : List NodeId
  removed = filter (λ q. same_node n q || is_child g n q) (nodes g)

  -- are the node and its intervals
  removed_is : (q : NodeId) → list_any (same_node q) removed ≡ list_any (same_node q) (n ∷ intervals_in (shape_of g n))
  removed_is q = split (list_any (same_node q) removed) (λ t. t ∙ sym (is t)) (λ t. t ∙ sym (not_true _ (λ u. no (sym t ∙ was u))))
    where
      is : list_any (same_node q) removed ≡ true → list_any (same_node q) (n ∷ intervals_in (shape_of g n)) ≡ true
      is t =
          or_elim (same_node n q) (is_child g n q)
          (all_at (λ x. same_node n x || is_child g n x) removed q t (all_filter (λ x. same_node n x || is_child g n x) (nodes g)))
          (λ same. or_left _ _ (same_node-sym q n ∙ same)) (λ c. or_right (same_node q n) _ (sym (child_is q) ∙ c))

      there : is_live g q ≡ true → (same_node n q || is_child g n q) ≡ true → list_any (same_node q) removed ≡ true
      there alive t = any_filtered (λ x. same_node n x || is_child g n x) q (nodes g) (listed g law q alive) t

      was : list_any (same_node q) (n ∷ intervals_in (shape_of g n)) ≡ true → list_any (same_node q) removed ≡ true
      was u =
          or_elim (same_node q n) (list_any (same_node q) (intervals_in (shape_of g n))) u
          (λ same. there (ap (is_live g) (same_node-equal q n same) ∙ live) (or_left _ _ (same_node-sym n q ∙ same)))
          (λ i. let c = child_is q ∙ i in there (child_live g q n c) (or_right (same_node n q) _ c))

  -- each of them once
  once : are_distinct (n ∷ intervals_in (shape_of g n)) ≡ true
  once = both _ _ (ap not (sym (child_is n) ∙ not_true _ (λ c. no (sym (movable_no_interval (shape_of g n) movable) ∙ (children_are n c).1))))
      (by (shape_of g n) refl)
    where
      by : (o : Option Shape) → shape_of g n ≡ o → are_distinct (intervals_in o) ≡ true
      by (Some (Index f bs is)) e = (index_node g law n f bs is e).distinct
      by _ e = refl

  -- the node and its intervals are that many
  pub count_left : node_count g ≡ node_count (left g n) + (1 + length (intervals_in (shape_of g n)))
  count_left =
      let many = same_length removed (n ∷ intervals_in (shape_of g n))
      (filter_distinct (λ q. same_node n q || is_child g n q) (nodes g) (nodes_distinct g)) once removed_is in
      let rest = ap length (nodes_left g n live) in
      let all = in_parts (λ q. same_node n q || is_child g n q) (nodes g) in
      omega arith
    where
      in_parts : (p : NodeId → Bool) (xs : List NodeId) → length xs ≡ length (filter p xs) + length (filter (λ x. not (p x)) xs)
      in_parts p [] = refl
      in_parts p (x ∷ xs) = grind (arith, in_parts p xs)

  -- no record is removed
  pub records_left : (f : NodeId) → record_count (left g n) f ≡ record_count g f
  records_left f =
      count_kept (λ o. is_record_shape (shape_in o) && list_any (same_node f) (parents_in o)) refl g (left g n) refl (λ b.
      split (gone g n b) (λ t. ap (λ o. is_record_shape (shape_in o) && list_any (same_node f) (parents_in o)) (at_gone g n b t) ∙ sym (by b t (g.at b) refl))
      (λ t. ap (λ o. is_record_shape (shape_in o) && list_any (same_node f) (parents_in o)) (at_beside g n b t)))
    where
      no_interval : (o : Option Shape) → is_interval_shape o ≡ true → is_record_shape o ≡ false
      no_interval o h = search rules

      by : (b : ℕ) → gone g n b ≡ true → (o : Option Node) → g.at b ≡ o →
          (is_record_shape (shape_in (g.at b)) && list_any (same_node f) (parents_in (g.at b))) ≡ false
      by b t None e = ap (λ o. is_record_shape (shape_in o) && list_any (same_node f) (parents_in o)) e
      by b t (Some x) e =
          let there : node_at g (record { key = x.key; birth = b }) ≡ Some x = finds x.key (g.at b) x e refl in
          ap (λ o. is_record_shape (shape_in o) && list_any (same_node f) (parents_in o)) (e ∙ sym there)
          ∙ ap (λ z. z && list_any (same_node f) (parents_of g (record { key = x.key; birth = b })))
          (or_elim (same_node n (record { key = x.key; birth = b })) (is_child g n (record { key = x.key; birth = b }))
          (sym (gone_is g n live (record { key = x.key; birth = b }) (ap is_some there)) ∙ t)
          (λ same. grind arith)
          (λ c. no_interval (shape_of g (record { key = x.key; birth = b })) (children_are (record { key = x.key; birth = b }) c).1))
