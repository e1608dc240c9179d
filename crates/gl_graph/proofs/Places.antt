-- The place of an interval in its index, and of an index in its file, as they are looked up.
use Rattle.gl_graph.proofs.Words.{ap, arith, cond, first_parent, Graph, if◌then◌else◌, Index, indexes_of, intervals_in, is_file_shape, is_index_of_shape}
use Rattle.gl_graph.proofs.Words.{is_interval_shape, IsLawfulGraph, length, List, list_any, nat_lt, nat_tests, NodeId, None, none_some, Option, position}
use Rattle.gl_graph.proofs.Words.{same_node, same_node-refl, Shape, shape_of, Some, some_is, true, ℕ, ◌∙◌, ◌≡◌}
use Rattle.gl_graph.specs.Graph.{place_of}
use Rattle.gl_graph.specs.Shapes.{file_in}
use Rattle.gl_graph.specs.Splits.{place_among}
use Rattle.gl_graph.proofs.Around.{at_place}
use Rattle.gl_graph.proofs.KindRules.{index_node}
use Rattle.gl_graph.proofs.Rekey.{index_among}

-- an interval is found among those of its index
pub place_found : (g : Graph) (law : IsLawfulGraph g) (i : NodeId) → is_interval_shape (shape_of g i) ≡ true → place_of g i ≡ Some (place_among g i)
place_found g law i kind =
    let low = (at_place g law i kind).0 in
    let test : nat_lt (place_among g i) (length (intervals_in (shape_of g (first_parent g i)))) ≡ true = grind (arith, nat_tests) in
    ap (λ b. if b then position (λ j. same_node j i) (intervals_in (shape_of g (first_parent g i))) else None) kind
    ∙ ap (λ b. cond b (Some (place_among g i)) None) test

-- an index with this file is an index of it
of_file : (o : Option Shape) (f : NodeId) → file_in o ≡ Some f
    → (bs : List ℕ) × (is : List NodeId) × (o ≡ Some (Index f bs is))
of_file (Some (Index file bounds intervals)) f e = (bounds, intervals, ap (λ h. Some (Index h bounds intervals)) (some_is e))
of_file _ f e = absurd (none_some e)

module _ (g : Graph) (law : IsLawfulGraph g) (x f : NodeId) (file : file_in (shape_of g x) ≡ Some f) where
  pub its_file : is_file_shape (shape_of g f) ≡ true
  its_file = let o = of_file (shape_of g x) f file in (index_node g law x f o.0 o.1 o.2).file

  pub listed_in_file : list_any (λ listed. same_node listed x) (indexes_of g f) ≡ true
  listed_in_file =
      let o = of_file (shape_of g x) f file in
      index_among g law f x (ap (is_index_of_shape f) o.2 ∙ same_node-refl f)
