-- One node with another shape or other parents: the law of the graph is kept.
use Rattle.gl_graph.proofs.Words.{◌∙◌, ◌≡◌, ◌≢◌, ◌≤◌, ap, arith, filter_map, fun_ext, Graph, id_of, indexes_of, Interval, is_child}
use Rattle.gl_graph.proofs.Words.{is_index_of_shape, is_live, is_record_shape, IsLawfulGraph, IsRoute, IsWellFormed, length, List, list_any, nat_tests, Node}
use Rattle.gl_graph.proofs.Words.{node_at, NodeId, nodes, Option, parents_in, range_with_len, same_node, same_node-equal, same_node-other, Shape, shape_of}
use Rattle.gl_graph.proofs.Words.{Some, some_is, subst, sym, true, with_node, ℕ}
use Rattle.gl_graph.proofs.KindRules.{AreAlike, Frames, is_plain, well_formed_kept}
use Rattle.gl_graph.proofs.Routes.{acyclic_moved}

-- the shape is the same except for a file's mark, or a record's keys
pub record IsAlike (was is : Shape) : Type 0 where
  pub plain : is_plain (Some was) ≡ true → AreAlike (Some is) (Some was)
  pub index : (f : NodeId) → is_index_of_shape f (Some is) ≡ is_index_of_shape f (Some was)
  pub rec : is_record_shape (Some is) ≡ is_record_shape (Some was)
  pub no_interval : was ≡ Interval → ⊥

module _ (g : Graph) (n : NodeId) (was is : Node) (there : node_at g n ≡ Some was) (key : is.key ≡ was.key) where
  abbrev pub after : Graph
  after = with_node g n.birth is

  pub at_here : node_at after n ≡ Some is
  at_here = grind arith

  pub at_other : (q : NodeId) → q ≢ n → node_at after q ≡ node_at g q
  at_other q ne = grind arith

  id_same : (b : ℕ) → id_of b (after.at b) ≡ id_of b (g.at b)
  id_same b = grind arith

  pub nodes_same : nodes after ≡ nodes g
  nodes_same = ap (λ (f : ℕ → Option NodeId). filter_map f (range_with_len 1 g.births)) (fun_ext id_same)

  pub live_same : (q : NodeId) → is_live after q ≡ is_live g q
  live_same q = grind arith

  module _ (alike : IsAlike was.shape is.shape) where
    pub rec_same : (q : NodeId) → is_record_shape (shape_of after q) ≡ is_record_shape (shape_of g q)
    rec_same q = grind arith

    pub indexes_same : (f : NodeId) → indexes_of after f ≡ indexes_of g f
    indexes_same f = grind arith

    pub changed_frames : Frames g after
    changed_frames = grind (arith, nat_tests)

    module _ (law : IsLawfulGraph g) (well : IsWellFormed after n is)
        (up : (p : NodeId) → list_any (same_node p) is.parents ≡ true → is_live g p ≡ true)
        (clear : (p : NodeId) (path : List NodeId) → list_any (same_node p) is.parents ≡ true → IsRoute g p path n → ⊥) where
      child_other : (p q : NodeId) → q ≢ n → is_child after p q ≡ true → is_child g p q ≡ true
      child_other p q ne h = sym (ap (λ o. list_any (same_node p) (parents_in o)) (at_other q ne)) ∙ h

      child_here : (p : NodeId) → is_child after p n ≡ true → list_any (same_node p) is.parents ≡ true
      child_here p h = sym (ap (λ o. list_any (same_node p) (parents_in o)) at_here) ∙ h

      pub changed_lawful : IsLawfulGraph after
      changed_lawful = record {
        well_formed = grind (arith, same_node-equal, some_is, at_here, well_formed_kept, changed_frames, at_other, same_node-other);
        parents_live = grind arith;
        acyclic = acyclic_moved g after n (λ p q ne h. child_other p q ne h) (λ p path h route. clear p path (child_here p h) route) law.acyclic;
        keys_differ = λ a b h k e. law.keys_differ a b (sym (live_same a) ∙ h) (sym (live_same b) ∙ k) e;
        born = grind arith;
        seven_indexes = λ f. subst (λ (is' : List NodeId). length is' ≤ 7) (sym (indexes_same f)) (law.seven_indexes f);
        limit = law.limit;
        room = subst (λ (xs : List NodeId). length xs ≤ g.most) (sym nodes_same) law.room;
      }
