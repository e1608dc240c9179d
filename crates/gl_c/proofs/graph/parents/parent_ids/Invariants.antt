use Rattle.std.specs.Prelude.{◌≡◌, map, take}
use Rattle.arrayvec.specs.ArrayVec.{array_vec_len}
use Rattle.gl_c.specs.Names.{node_id}
use Rattle.gl_c.proofs.graph.parents.parent_ids.Given as goal

-- the parents so far have their names in the list
abbrev pub invariant-loop-parent : goal.invariant-loop-parent
invariant-loop-parent l = record {
  names : l.ids.items ≡ map node_id (take l.parent-index l.parents);
  count : array_vec_len l.ids ≡ l.parent-index;
}
