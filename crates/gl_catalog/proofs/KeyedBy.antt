-- A record's file, which is its first parent, and the indexes of that file.
use Rattle.std.specs.Prelude.{◌≡◌, ◌<◌, true, ◌&&◌, List, [], ◌∷◌, length, get_or}
use Rattle.std.specs.List.{list_any}
use Rattle.std.proofs.Common.{refl, sym, ap, ◌∙◌, arith}
use Rattle.gl_modes.proofs.Words.{no, split}
use Rattle.gl_modes.specs.declared.node.NodeId.{NodeId}
use Rattle.gl_modes.specs.Nodes.{same_node}
use Rattle.gl_graph.specs.Shapes.{is_index_of_shape, is_record_shape}
use Rattle.gl_graph.specs.Graph.{Graph, first_in, first_parent, indexes_of, nodes, parents_of, shape_of}
use Rattle.gl_graph.specs.Lawful.{IsLawfulGraph}
use Rattle.gl_graph.proofs.Look.{all_at, all_filter}
use Rattle.gl_graph.proofs.KindRules.{index_of, is_plain, plain_live}
use Rattle.gl_graph.proofs.Distinct.{index_listed}
use Rattle.gl_graph.proofs.RecordParents.{its_parents}

-- the first of these nodes
pub first_is : (ps : List NodeId) (d : NodeId) → 0 < length ps → get_or ps 0 d ≡ first_in ps
first_is [] d low = absurd (omega arith)
first_is (p ∷ ps) d low = refl

module _ (g : Graph) (law : IsLawfulGraph g) where
  -- a file's indexes are those of its shape
  pub among_indexes : (f i : NodeId) → list_any (same_node i) (indexes_of g f) ≡ is_index_of_shape f (shape_of g i)
  among_indexes f i =
      split (is_index_of_shape f (shape_of g i)) (λ is. index_listed g law f i (plain_live g i (ap is_plain (index_of f (shape_of g i) is).3)) is ∙ sym is)
      (λ isnt. split (list_any (same_node i) (indexes_of g f))
      (λ listed. absurd (no (sym isnt
      ∙ all_at (λ n. is_index_of_shape f (shape_of g n)) (indexes_of g f) i listed
      (all_filter (λ n. is_index_of_shape f (shape_of g n)) (nodes g))))) (λ unlisted. unlisted ∙ sym isnt))

  module _ (r : NodeId) (rec : is_record_shape (shape_of g r) ≡ true) where
    pub has_parents : 0 < length (parents_of g r)
    has_parents = let count = ap length (its_parents g law r rec) in omega arith

    pub first_is_file : (d : NodeId) → get_or (parents_of g r) 0 d ≡ first_parent g r
    first_is_file d = first_is (parents_of g r) d has_parents

    -- what is an index of the record's file
    pub keyed_by : (i : NodeId) → list_any (same_node i)
        (indexes_of g (first_parent g r)) ≡ (is_record_shape (shape_of g r) && is_index_of_shape (first_parent g r) (shape_of g i))
    keyed_by i = among_indexes (first_parent g r) i ∙ ap (λ b. b && is_index_of_shape (first_parent g r) (shape_of g i)) (sym rec)
