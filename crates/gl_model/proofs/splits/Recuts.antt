-- What the level of states needs of a graph before and after a split or a merge.
use Rattle.std.specs.Prelude.{◌≡◌, ◌⊎◌, ⊤, true, false, List, [], ◌∷◌}
use Rattle.gl_modes.specs.declared.node.NodeId.{NodeId}
use Rattle.gl_graph.specs.Graph.{Graph, is_live, parents_of, shape_of}
use Rattle.gl_graph.specs.Lawful.{IsLawfulGraph}
use Rattle.gl_graph.specs.Shapes.{is_record_shape, keys_in}

-- the second list is the first, but that x may have become y
abbrev pub AreRenamed : NodeId → NodeId → List NodeId → List NodeId → Type 0
AreRenamed x y [] [] = ⊤
AreRenamed x y (p ∷ ps) (p' ∷ ps') = ((p' ≡ p) ⊎ ((p ≡ x) × (p' ≡ y))) × AreRenamed x y ps ps'
AreRenamed x y ps ps' = ⊥

-- g' is g but for the intervals x of g and y of g', which have the same parents: each other node of the one is in the other too, and a node of both is as it
-- was, but that y may have become a parent of it in place of x
pub record Recuts (g g' : Graph) (x y : NodeId) : Type 0 where
  pub lawful : IsLawfulGraph g'
  pub stays : (q : NodeId) → is_live g q ≡ true → (is_live g' q ≡ true) ⊎ (q ≡ x)
  pub came : (q : NodeId) → is_live g' q ≡ true → (is_live g q ≡ true) ⊎ (q ≡ y)
  pub here : is_live g' y ≡ true
  pub old_plain : is_record_shape (shape_of g x) ≡ false
  pub new_plain : is_record_shape (shape_of g' y) ≡ false
  pub above : AreRenamed x y (parents_of g x) (parents_of g' y)
  pub kinds : (q : NodeId) → is_live g q ≡ true → is_live g' q ≡ true → is_record_shape (shape_of g' q) ≡ is_record_shape (shape_of g q)
  pub keys : (q : NodeId) → is_live g q ≡ true → is_live g' q ≡ true → keys_in (shape_of g' q) ≡ keys_in (shape_of g q)
  pub parents : (q : NodeId) → is_live g q ≡ true → is_live g' q ≡ true → AreRenamed x y (parents_of g q) (parents_of g' q)

-- interval i was split, and n is the new one: i may have become n
pub record IsCut (g g' : Graph) (i n : NodeId) : Type 0 where
  pub recuts : Recuts g g' i n
  pub old : is_live g' i ≡ true
  pub fresh : is_live g n ≡ false

-- interval j was merged into i, and is gone: each j has become i
pub record IsJoined (g g' : Graph) (i j : NodeId) : Type 0 where
  pub recuts : Recuts g g' j i
  pub gone : is_live g' j ≡ false
