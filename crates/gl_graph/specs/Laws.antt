-- The laws of lawful graphs, as statements.
use Rattle.std.specs.Prelude.{◌≡◌, ℕ, true, List, ◌∷◌, Some, None}
use Rattle.gl_modes.specs.declared.node.NodeId.{NodeId}
use Rattle.gl_graph.specs.Graph.{Graph, interval_at, interval_of, is_live, is_child, shape_of}
use Rattle.gl_graph.specs.Intervals.{HoldsKey}
use Rattle.gl_graph.specs.Routes.{IsRootPath}
use Rattle.gl_graph.specs.Shapes.{bounds_in, is_index_shape}
use Rattle.gl_graph.specs.Lawful.{IsLawfulGraph}
use Rattle.gl_graph.specs.Over.{IsIndexOver, over_refusal}

-- every node of a lawful graph has a path to the root
abbrev pub NodesHaveRootPaths : Type 0
NodesHaveRootPaths = (g : Graph) → IsLawfulGraph g → (n : NodeId) → is_live g n ≡ true → (route : List NodeId) × IsRootPath g n route

-- a parent and its path to the root are a path to the root of the child
abbrev pub RootPathsGrow : Type 0
RootPathsGrow = (g : Graph) (n p : NodeId) (route : List NodeId) → is_child g p n ≡ true → IsRootPath g p route → IsRootPath g n (p ∷ route)

-- the first step of a path to the root leads to a parent, and its rest is a path to the root of that parent
abbrev pub RootPathsShrink : Type 0
RootPathsShrink = (g : Graph) (n p : NodeId) (route : List NodeId) → IsRootPath g n (p ∷ route) → (is_child g p n ≡ true) × IsRootPath g p route

-- the interval of a key is one of the index's intervals
abbrev pub KeysHaveIntervals : Type 0
KeysHaveIntervals =
    (g : Graph) → IsLawfulGraph g → (index : NodeId) (key : ℕ) → is_index_shape (shape_of g index) ≡ true → (place : ℕ)
    × (interval_at g index place ≡ Some (interval_of g index key))

-- of the intervals of an index, the interval of a key is the one that contains it
abbrev pub IntervalsHoldKeys : Type 0
IntervalsHoldKeys =
    (g : Graph) → IsLawfulGraph g → (index n : NodeId) (place key : ℕ) → interval_at g index place ≡ Some n
    → (n ≡ interval_of g index key → HoldsKey (bounds_in (shape_of g index)) place key)
    × (HoldsKey (bounds_in (shape_of g index)) place key → n ≡ interval_of g index key)

-- an index that is made over records leaves the graph lawful
abbrev pub IndexesKeepGraphs : Type 0
IndexesKeepGraphs =
    (g g' : Graph) (n : NodeId) (ps : List NodeId) (f : NodeId) (bs : List ℕ) (rs : List NodeId) (ks : List ℕ) → IsLawfulGraph g
    → over_refusal g ps f bs rs ks ≡ None → IsIndexOver g g' n ps f bs rs ks → IsLawfulGraph g'
