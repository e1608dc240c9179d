-- An interval of a lawful graph: its index, and its place there.
use Rattle.std.proofs.Common.{◌∙◌, ap, arith, refl, subst, sym}
use Rattle.std.specs.List.{list_any}
use Rattle.std.specs.Prelude.{◌≡◌, ◌<◌, ◌≤◌, ℕ, true, List, [], ◌∷◌, length, Option, Some, slice_index_or}
use Rattle.gl_modes.proofs.Words.{no}
use Rattle.gl_modes.specs.Nodes.{same_node}
use Rattle.gl_modes.specs.declared.node.NodeId.{NodeId}
use Rattle.gl_graph.proofs.KindRules.{index_in, index_node, index_plain, plain_live}
use Rattle.gl_graph.proofs.Look.{shaped_node}
use Rattle.gl_graph.specs.Graph.{first_in, first_parent, Graph, is_live, no_node, Node, node_at, parents_in, parents_of, shape_of}
use Rattle.gl_graph.specs.Lawful.{HasShape, IsIndexNode, IsLawfulGraph}
use Rattle.gl_graph.specs.Shapes.{bounds_in, Index, Interval, intervals_in, is_index_shape, is_interval_shape, Shape}
use Rattle.gl_graph.specs.Splits.{file_of, place_among}
use Rattle.gl_graph.proofs.Lists.{found_at_place}

interval_in : (o : Option Shape) → is_interval_shape o ≡ true → o ≡ Some Interval
interval_in (Some Interval) h = refl
interval_in _ h = absurd (no h)

module _ (g : Graph) (law : IsLawfulGraph g) (i : NodeId) (kind : is_interval_shape (shape_of g i) ≡ true) where
  abbrev pub x : NodeId
  x = first_parent g i

  abbrev pub f : NodeId
  f = file_of (shape_of g x)

  abbrev pub bs : List ℕ
  bs = bounds_in (shape_of g x)

  abbrev pub is : List NodeId
  is = intervals_in (shape_of g x)

  abbrev pub p : ℕ
  p = place_among g i

  around : (parents_of g i ≡ x ∷ []) × (is_index_shape (shape_of g x) ≡ true) × (list_any (same_node i) is ≡ true)
  around =
      let there = shaped_node g i Interval (interval_in (shape_of g i) kind) in
      let h : HasShape g i Interval there.0.parents = subst (λ sh. HasShape g i sh there.0.parents) there.2 (law.well_formed i there.0 there.1) in
      let above : parents_of g i ≡ h.0 ∷ [] = ap parents_in there.1 ∙ h.1 in
      let first : first_parent g i ≡ h.0 = ap first_in above in
      subst (λ y. (parents_of g i ≡ y ∷ []) × (is_index_shape (shape_of g y) ≡ true) × (list_any (same_node i) (intervals_in (shape_of g y)) ≡ true))
      (sym first)
      (above, h.2, h.3)

  pub one_parent : parents_of g i ≡ x ∷ []
  one_parent = around.0

  pub listed : list_any (same_node i) is ≡ true
  listed = around.2

  pub index : is_index_shape (shape_of g x) ≡ true
  index = around.1

  pub x_live : is_live g x ≡ true
  x_live = plain_live g x (index_plain (shape_of g x) index)

  pub shape_is : shape_of g x ≡ Some (Index f bs is)
  shape_is = let k = index_in (shape_of g x) index in k.1 ∙ (λ j. Some (Index (sym (ap file_of k.1) j) bs is))

  pub its_index : IsIndexNode g x f bs is
  its_index = index_node g law x f bs is shape_is

  pub its_node : (node : Node) × (node_at g x ≡ Some node) × (node.shape ≡ Index f bs is)
  its_node = shaped_node g x (Index f bs is) shape_is

  pub at_place : (p < length is) × (slice_index_or is p no_node ≡ i)
  at_place = found_at_place is i no_node around.2

  pub place_low : p ≤ length bs
  place_low = let low = at_place.0 in let count = its_index.count in omega arith
