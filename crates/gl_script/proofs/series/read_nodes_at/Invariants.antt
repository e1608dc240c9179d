use Rattle.std.proofs.Common.{◌≡◌, ◌+◌, ◌≤◌, ◌++◌, All, length, map}
use Rattle.gl_script.specs.Grammar.{IsNode, node_text}
use Rattle.gl_script.specs.Left.{left}
use Rattle.gl_script.specs.Views.{node_of}
use Rattle.gl_script.proofs.series.read_nodes_at.Given as goal

abbrev pub invariant-loop-field : goal.invariant-loop-field
invariant-loop-field l = record {
  room : length l.nodes.items + length (left l.fields) ≤ 257;
  each : All IsNode (map node_of l.nodes.items);
  split : left l.fn.fields ≡ map node_text (map node_of l.nodes.items) ++ left l.fields;
}

abbrev pub decreases-loop-field : goal.decreases-loop-field
decreases-loop-field l = length (left l.fields)
