-- The shapes of nodes, and tests of them.
use Rattle.std.specs.Prelude.{ℕ, Bool, true, false, List, [], Option, Some, None}
use Rattle.gl_modes.specs.declared.node.NodeId.{NodeId}
use Rattle.gl_modes.specs.Nodes.{same_node}
use Rattle.gl_graph.specs.declared.kind.Kind.{Kind}
use Rattle.gl_graph.specs.declared.kind.Kind.TheVariants as kind

-- a file has whether rows of it were ever adopted (a record of it was made without a transaction, and may be gone), an index its file, its bounds and its
-- intervals in order, a record its keys
pub data Shape : Type 0 where
  Inner : Shape
  File : (adopted : Bool) → Shape
  Index : (file : NodeId) → (bounds : List ℕ) → (intervals : List NodeId) → Shape
  Interval : Shape
  Rec : (keys : List ℕ) → Shape

-- the kind of the shape, if there is one
abbrev pub kind_in : Option Shape → Option Kind
kind_in None = None
kind_in (Some Inner) = Some kind.Inner
kind_in (Some (File adopted)) = Some kind.File
kind_in (Some (Index file bounds intervals)) = Some kind.Index
kind_in (Some Interval) = Some kind.Interval
kind_in (Some (Rec keys)) = Some kind.Rec

-- the shape is an inner node's
abbrev pub is_inner_shape : Option Shape → Bool
is_inner_shape (Some Inner) = true
is_inner_shape s = false

-- the shape is a file's
abbrev pub is_file_shape : Option Shape → Bool
is_file_shape (Some (File adopted)) = true
is_file_shape s = false

-- the shape is that of a file of which rows were adopted
abbrev pub is_adopted : Option Shape → Bool
is_adopted (Some (File adopted)) = adopted
is_adopted s = false

-- the shape is a record's
abbrev pub is_record_shape : Option Shape → Bool
is_record_shape (Some (Rec keys)) = true
is_record_shape s = false

-- the shape is an index's
abbrev pub is_index_shape : Option Shape → Bool
is_index_shape (Some (Index file bounds intervals)) = true
is_index_shape s = false

-- the shape is an interval's
abbrev pub is_interval_shape : Option Shape → Bool
is_interval_shape (Some Interval) = true
is_interval_shape s = false

-- the shape is that of an index of this file
abbrev pub is_index_of_shape : NodeId → Option Shape → Bool
is_index_of_shape f (Some (Index file bounds intervals)) = same_node f file
is_index_of_shape f s = false

-- a node that can be moved: an inner node, a file, an index
abbrev pub is_movable_shape : Option Shape → Bool
is_movable_shape (Some Inner) = true
is_movable_shape (Some (File adopted)) = true
is_movable_shape (Some (Index file bounds intervals)) = true
is_movable_shape s = false

-- the least number of parents of a movable node
abbrev pub least_parents : Option Shape → ℕ
least_parents (Some Inner) = 0
least_parents o = 1

-- the file of an index
abbrev pub file_in : Option Shape → Option NodeId
file_in (Some (Index file bounds intervals)) = Some file
file_in s = None

-- the bounds of an index
abbrev pub bounds_in : Option Shape → List ℕ
bounds_in (Some (Index file bounds intervals)) = bounds
bounds_in s = []

-- the intervals of an index, in order
abbrev pub intervals_in : Option Shape → List NodeId
intervals_in (Some (Index file bounds intervals)) = intervals
intervals_in s = []

-- the keys of a record
abbrev pub keys_in : Option Shape → List ℕ
keys_in (Some (Rec keys)) = keys
keys_in s = []
