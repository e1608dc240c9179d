use Rattle.gl_interpreter.proofs.Words.{[], ◌≡◌, drop, first_unused, Hands, script_of, some_unused}
use Rattle.gl_script.specs.Views.{nodes_of}
use Rattle.gl_interpreter.proofs.answers.put_unused_listed.Given as goal

abbrev pub invariant-loop-node : goal.invariant-loop-node
invariant-loop-node g l = record {
  text : Hands (g.W.Write.contents l.fn.writer) l.fn.sink (g.W.Write.contents l.writer) l.sink [];
  first : first_unused (script_of l.desk) (nodes_of l.lists) ≡ first_unused (script_of l.desk) (drop l.node-index (nodes_of l.lists));
  some : some_unused (script_of l.desk) (nodes_of l.lists) ≡ some_unused (script_of l.desk) (drop l.node-index (nodes_of l.lists));
}
