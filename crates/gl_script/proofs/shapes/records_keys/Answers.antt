use Rattle.std.proofs.Common.{codes}
use Rattle.gl_script.specs.Grammar.{IsNode, node_text}
use Rattle.gl_script.proofs.ListTexts.{at_is_no_node, behind_word, none_so}
use Rattle.gl_script.proofs.shapes.records_keys.Goals as goal

pub returns-clause-none : goal.returns-clause-none
returns-clause-none c =
    let read = c.in_ok-read_nodes_at.ensures.found in
    none_so c.read_numbers.result _ _
    (λ none rs ks nodes keys e. none ks keys (behind_word node_text IsNode (codes "at") at_is_no_node _ _ _ rs _ read.1 read.0 nodes e))
    c.read_numbers.ensures.none
