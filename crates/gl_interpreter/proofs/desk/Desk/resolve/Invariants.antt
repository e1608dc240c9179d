use Rattle.gl_interpreter.proofs.Words.{◌≡◌, map, node_ids, node_of, script_of, take}
use Rattle.gl_interpreter.proofs.desk.Desk.resolve.Given as goal

abbrev pub invariant-loop-node : goal.invariant-loop-node
invariant-loop-node l = l.ids.items ≡ take l.node-index (node_ids (script_of l.self) (map node_of l.nodes.items))
