-- The laws of graphs whose intervals split and merge, as statements.
use Rattle.std.specs.Prelude.{◌≡◌, ◌≢◌, ℕ, ◌+◌, ◌&&◌, nat_le, None, if◌then◌else◌}
use Rattle.gl_modes.specs.declared.node.NodeId.{NodeId}
use Rattle.gl_modes.specs.Nodes.{same_node}
use Rattle.gl_graph.specs.Graph.{Graph, first_parent, interval_of}
use Rattle.gl_graph.specs.Lawful.{IsLawfulGraph}
use Rattle.gl_graph.specs.Splits.{IsSplit, merge, merge_refusal, next_interval, split_refusal}

-- after a split the new interval has the keys of the old one from the bound on; each other key is in the interval where it was
abbrev pub SplitsMoveKeys : Type 0
SplitsMoveKeys =
    (g g' : Graph) (i n : NodeId) (bound : ℕ) → IsLawfulGraph g → split_refusal g i bound ≡ None → IsSplit g g' i n bound → (key : ℕ)
    → interval_of g' (first_parent g i) key
    ≡ (if nat_le bound key && same_node (interval_of g (first_parent g i) key) i then n else interval_of g (first_parent g i) key)

-- and of every other index too
abbrev pub SplitsMoveNoOthers : Type 0
SplitsMoveNoOthers =
    (g g' : Graph) (i n : NodeId) (bound : ℕ) → IsLawfulGraph g → split_refusal g i bound ≡ None → IsSplit g g' i n bound → (index : NodeId)
    → index ≢ first_parent g i → (key : ℕ) → interval_of g' index key ≡ interval_of g index key

-- after a merge the interval has its keys and those of the next one; each other key is in the interval where it was
abbrev pub MergesMoveKeys : Type 0
MergesMoveKeys =
    (g : Graph) (i : NodeId) → IsLawfulGraph g → merge_refusal g i ≡ None → (key : ℕ)
    → interval_of (merge g i) (first_parent g i) key
    ≡ (if same_node (interval_of g (first_parent g i) key) (next_interval g i) then i else interval_of g (first_parent g i) key)

-- and of every other index too
abbrev pub MergesMoveNoOthers : Type 0
MergesMoveNoOthers =
    (g : Graph) (i : NodeId) → IsLawfulGraph g → merge_refusal g i ≡ None → (index : NodeId) → index ≢ first_parent g i → (key : ℕ)
    → interval_of (merge g i) index key ≡ interval_of g index key

-- a split leaves the graph lawful
abbrev pub SplitsKeepGraphs : Type 0
SplitsKeepGraphs =
    (g g' : Graph) (i n : NodeId) (bound : ℕ) → IsLawfulGraph g → split_refusal g i bound ≡ None → IsSplit g g' i n bound → IsLawfulGraph g'

-- and so does a merge
abbrev pub MergesKeepGraphs : Type 0
MergesKeepGraphs = (g : Graph) (i : NodeId) → IsLawfulGraph g → merge_refusal g i ≡ None → IsLawfulGraph (merge g i)

-- a merge undoes a split, except that births stay counted
abbrev pub MergesUndoSplits : Type 0
MergesUndoSplits =
    (g g' : Graph) (i n : NodeId) (bound : ℕ) → IsLawfulGraph g → split_refusal g i bound ≡ None → IsSplit g g' i n bound
    → merge g' i ≡ record g { births = g.births + 1 }
