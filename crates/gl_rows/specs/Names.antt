-- What holds of the nodes of rows, whatever a registry has served.
use Rattle.std.specs.Prelude.{◌≡◌, Bool, true, Option, Some}
use Rattle.gl_modes.specs.declared.node.NodeId.{NodeId}
use Rattle.gl_graph.specs.Graph.{Graph, first_parent, shape_of}
use Rattle.gl_graph.specs.Shapes.{is_record_shape}
use Rattle.gl_rows.specs.declared.row.Row.{Row}
use Rattle.gl_rows.specs.Rows.{RowsView, has_rows, name_of}

-- the node of each row, if it has one
abbrev pub Naming : Type 0
Naming = Row → Option NodeId

-- each row's node is a living record of the row's file, and no two rows have the same node
pub record NameWell (name : Naming) (g : Graph) : Type 0 where
  pub stands : (row : Row) (n : NodeId) → name row ≡ Some n → (is_record_shape (shape_of g n) ≡ true) × (first_parent g n ≡ row.file)
  pub apart : (p q : Row) (n : NodeId) → name p ≡ Some n → name q ≡ Some n → p ≡ q

-- the same; rows of these files alone have nodes, and each record of such a file is the node of a row
pub record NamesHoldIn (has : NodeId → Bool) (name : Naming) (g : Graph) : Type 0 where
  pub well : NameWell name g
  pub within : (row : Row) (n : NodeId) → name row ≡ Some n → has row.file ≡ true
  pub all : (r : NodeId) → is_record_shape (shape_of g r) ≡ true → has (first_parent g r) ≡ true → (row : Row) × (name row ≡ Some r)

-- the law of names: the same for the files of rows
abbrev pub NamesHold : RowsView → Graph → Type 0
NamesHold v g = NamesHoldIn (has_rows v) (name_of v) g
