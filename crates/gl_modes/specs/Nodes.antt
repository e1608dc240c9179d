-- The ids of nodes.
use Rattle.std.specs.Prelude.{◌==◌, ◌&&◌, Bool}
use Rattle.gl_modes.specs.declared.node.NodeId.{NodeId}

-- the same id
abbrev pub same_node : NodeId → NodeId → Bool
same_node a b = (a.key == b.key) && (a.birth == b.birth)
