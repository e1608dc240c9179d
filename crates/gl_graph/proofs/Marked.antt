-- A file is marked as one of which rows were adopted: all else in the graph stays, and the graph is lawful. For crates that read a graph after `mark_adopted`.
use Rattle.gl_graph.proofs.Words.{[], ap, arith, File, first_in, first_parent, Graph, HasShape, indexes_of, interval_of, is_adopted, is_child, is_file_shape}
use Rattle.gl_graph.proofs.Words.{is_live, is_record_shape, is_some, IsLawfulGraph, IsRoute, IsWellFormed, keys_in, length, List, list_any, marked, marked_node}
use Rattle.gl_graph.proofs.Words.{marked_shape, Node, node_at, node_count, NodeId, nodes, None, none_some, Option, parents_of, refl, rules, same_node, Shape}
use Rattle.gl_graph.proofs.Words.{shape_of, Some, some_is, subst, sym, true, ℕ, ◌∙◌, ◌∷◌, ◌≡◌, ◌≤◌}
use Rattle.gl_graph.proofs.KindRules.{Frames, well_formed_kept}

-- what is read of a node is the same with the mark as without
abbrev IsBlind : {A : Type 0} → (Option Node → A) → Type 0
IsBlind see = (o : Option Node) → see (marked_node o) ≡ see o

-- a shape with the mark requires of a node what the shape without it requires
shape_marked : (g : Graph) (n : NodeId) (sh : Shape) (ps : List NodeId) → HasShape g n sh ps → HasShape g n (marked_shape sh) ps
shape_marked g n (File adopted) ps h = h
shape_marked g n _ ps h = h

module _ (g : Graph) (f : NodeId) where
  -- a function that ignores the mark reads of each birth what it read before
  read : {A : Type 0} (see : Option Node → A) → IsBlind see → (b : ℕ) → see ((marked g f).at b) ≡ see (g.at b)
  read see blind b = grind arith

  read_shape : {A : Type 0} (see : Option Shape → A) → ((sh : Shape) → see (Some (marked_shape sh)) ≡ see (Some sh))
      → (n : NodeId) → see (shape_of (marked g f) n) ≡ see (shape_of g n)
  read_shape see blind n = grind arith

  -- each node has the mark or does not
  node_after : (n : NodeId) (P : Option Node → Type 0) → P (node_at g n) → P (marked_node (node_at g n)) → P (node_at (marked g f) n)
  node_after n P was is = grind arith

  pub marked_live : (n : NodeId) → is_live (marked g f) n ≡ is_live g n
  marked_live n = grind arith

  pub marked_parents : (n : NodeId) → parents_of (marked g f) n ≡ parents_of g n
  marked_parents n = grind arith

  pub marked_child : (p n : NodeId) → is_child (marked g f) p n ≡ is_child g p n
  marked_child p n = ap (list_any (same_node p)) (marked_parents n)

  pub marked_first_parent : (n : NodeId) → first_parent (marked g f) n ≡ first_parent g n
  marked_first_parent n = ap first_in (marked_parents n)

  pub marked_record : (n : NodeId) → is_record_shape (shape_of (marked g f) n) ≡ is_record_shape (shape_of g n)
  marked_record n = read_shape is_record_shape (λ sh. search rules) n

  pub marked_keys : (n : NodeId) → keys_in (shape_of (marked g f) n) ≡ keys_in (shape_of g n)
  marked_keys n = read_shape keys_in (λ sh. search rules) n

  pub marked_nodes : nodes (marked g f) ≡ nodes g
  marked_nodes = grind arith

  pub marked_count : node_count (marked g f) ≡ node_count g
  marked_count = ap length marked_nodes

  pub marked_indexes : (file : NodeId) → indexes_of (marked g f) file ≡ indexes_of g file
  marked_indexes file = grind arith

  pub marked_interval_of : (index : NodeId) (key : ℕ) → interval_of (marked g f) index key ≡ interval_of g index key
  marked_interval_of index key = grind arith

  -- the file itself has the mark
  pub marked_is_adopted : is_file_shape (shape_of g f) ≡ true → is_adopted (shape_of (marked g f) f) ≡ true
  marked_is_adopted h = grind arith

  module _ (law : IsLawfulGraph g) where
    frames : Frames g (marked g f)
    frames = grind arith

    well_formed : (n : NodeId) (node : Node) → node_at (marked g f) n ≡ Some node → IsWellFormed (marked g f) n node
    well_formed n node e =
        node_after n (λ o. o ≡ Some node → IsWellFormed (marked g f) n node) (well_formed_kept g (marked g f) law frames n node) (by (node_at g n) refl) e
      where
        by : (o : Option Node) → node_at g n ≡ o → marked_node o ≡ Some node → IsWellFormed (marked g f) n node
        by None there k = absurd (none_some k)
        by (Some was) there k =
            subst (IsWellFormed (marked g f) n) (some_is k)
            (shape_marked (marked g f) n was.shape was.parents (well_formed_kept g (marked g f) law frames n was there))

    route_was : (n : NodeId) (route : List NodeId) (m : NodeId) → IsRoute (marked g f) n route m → IsRoute g n route m
    route_was n [] m r = r
    route_was n (p ∷ route) m r = (sym (marked_child p n) ∙ r.0, route_was p route m r.1)

    pub marked_lawful : IsLawfulGraph (marked g f)
    marked_lawful = record {
      well_formed = well_formed;
      parents_live = λ n p h. marked_live p ∙ law.parents_live n p (sym (marked_child p n) ∙ h);
      acyclic = λ n p route r. law.acyclic n p route (route_was n (p ∷ route) n r);
      keys_differ = λ m n h k e. law.keys_differ m n (sym (marked_live m) ∙ h) (sym (marked_live n) ∙ k) e;
      born = λ b h. law.born b (sym (read is_some there b) ∙ h);
      seven_indexes = λ file. subst (λ (is : List NodeId). length is ≤ 7) (sym (marked_indexes file)) (law.seven_indexes file);
      room = subst (λ (count : ℕ). count ≤ g.most) (sym marked_count) law.room;
      limit = law.limit;
    }
      where
        there : (o : Option Node) → is_some (marked_node o) ≡ is_some o
        there None = refl
        there (Some x) = refl
