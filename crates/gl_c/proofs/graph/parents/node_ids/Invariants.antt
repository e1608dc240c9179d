use Rattle.std.specs.Prelude.{◌≡◌, map, take}
use Rattle.gl_c.specs.Names.{node_id}
use Rattle.gl_c.proofs.graph.parents.node_ids.Given as goal

-- the nodes so far have their names in the list
abbrev pub invariant-loop-node : goal.invariant-loop-node
invariant-loop-node l = l.ids.items ≡ map node_id (take l.node-index l.nodes)
