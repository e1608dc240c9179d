-- What a new index allocates.
use Rattle.std.specs.Prelude.{◌≡◌, ℕ, ◌+◌, ◌≤◌, List, [], length, vec_capacity}
use Rattle.smallvec.specs.SmallVec.{HasRoomFor}
use Rattle.gl_modes.specs.declared.node.NodeId.{NodeId}
use Rattle.gl_graph.specs.declared.graph.make.IndexParts.{IndexParts}

-- copies of these, an index that lists no intervals yet, room for the intervals, and room for one more index
pub record AreParts (parts : IndexParts) (ps : List NodeId) (file : NodeId) (bs : List ℕ) (is : List NodeId) : Type 0 where
  pub parents : parts.parents.items ≡ ps
  pub file_is : parts.body.value.file ≡ file
  pub bounds : parts.body.value.bounds.items ≡ bs
  pub unlisted : parts.body.value.intervals.items ≡ []
  pub none : parts.intervals.items ≡ []
  pub room : length bs + 1 ≤ vec_capacity parts.intervals
  pub indexes : parts.indexes.items ≡ is
  pub index_room : HasRoomFor parts.indexes 1
