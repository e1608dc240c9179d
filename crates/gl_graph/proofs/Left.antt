-- A node is removed: the remaining nodes, and their number.
use Rattle.gl_graph.proofs.Words.{ap, arith, Bool, cond, cons_option, count_by, filter_map, filter_map-append, Graph, id_of, is_live, IsLawfulGraph}
use Rattle.gl_graph.proofs.Words.{length-append, List, node_at, node_count, NodeId, nodes, number_other, number_same, Option, range_with_len, Some, suc}
use Rattle.gl_graph.proofs.Words.{sum_by-append, true, without_node, ℕ, ◌++◌, ◌+◌, ◌-◌, ◌∙◌, ◌∷◌, ◌≡◌, ◌≤◌}
use Rattle.gl_graph.proofs.Look.{live_node, found_at, there_is}
use Rattle.gl_graph.proofs.Listings.{range_append, map_same}
use Rattle.gl_graph.proofs.Counts.{count_cons}

module _ (g : Graph) (law : IsLawfulGraph g) (r : NodeId) (live : is_live g r ≡ true) where
  within : (1 ≤ r.birth) × (r.birth ≤ g.births)
  within = let n = live_node (node_at g r) live in law.born r.birth (there_is (g.at r.birth) n.0 (found_at g r n.0 n.1).0)

  id_is : id_of r.birth (g.at r.birth) ≡ Some r
  id_is = grind arith

  -- the nodes born before, and those born after
  abbrev pub earlier : List NodeId
  earlier = filter_map (λ b. id_of b (g.at b)) (range_with_len 1 (r.birth - 1))

  abbrev pub later : List NodeId
  later = filter_map (λ b. id_of b (g.at b)) (range_with_len (r.birth + 1) (g.births - r.birth))

  cut : (h : ℕ → Option NodeId) → filter_map h (range_with_len 1 g.births) ≡ filter_map h (range_with_len 1 (r.birth - 1))
      ++ cons_option (h r.birth) (filter_map h (range_with_len (r.birth + 1) (g.births - r.birth)))
  cut h =
      let w = within in
      ap (filter_map h) (range_append 1 (r.birth - 1) (suc (g.births - r.birth)) g.births r.birth (omega arith) (omega arith))
      ∙ filter_map-append h (range_with_len 1 (r.birth - 1)) (range_with_len r.birth (suc (g.births - r.birth)))

  pub nodes_there : nodes g ≡ earlier ++ r ∷ later
  nodes_there = cut (λ b. id_of b (g.at b)) ∙ ap (λ o. earlier ++ cons_option o later) id_is

  pub nodes_left : nodes (without_node g r) ≡ earlier ++ later
  nodes_left = grind (arith, within, cut, map_same, number_same, number_other)

  pub count_there : (p : NodeId → Bool) → count_by p (nodes g) ≡ count_by p (nodes (without_node g r)) + cond (p r) 1 0
  count_there p = grind (arith, nodes_there, sum_by-append, nodes_left, count_cons)

  pub fewer_nodes : node_count g ≡ node_count (without_node g r) + 1
  fewer_nodes = grind (arith, nodes_there, length-append, nodes_left)
