use Rattle.std.proofs.Common.{◌≡◌, List, [], ◌∷◌, ◌++◌, All, codes, length, map, ap, ◌∙◌, sym, true≢false, subst, arith}
use Rattle.std.proofs.lemmas.List.{map_push}
use Rattle.std.proofs.lemmas.List.Elements.{All-push}
use Rattle.gl_script.specs.Grammar.{Node, IsNode, node_text}
use Rattle.gl_script.specs.Views.{node_of}
use Rattle.gl_script.proofs.ListTexts.{at_is_no_node, none_before, none_without, spelt_more}
use Rattle.gl_script.proofs.series.read_nodes_at.Goals as goal

pub returns-in_err-read_used-clause-none : goal.returns-in_err-read_used-clause-none
returns-in_err-read_used-clause-none c =
    let inv = c.loop-field.invariant in
    let done : List Node = map node_of c.loop-field.nodes.items in
    rw c.from_residual.ensures (λ ns more are e.
    none_before node_text IsNode (codes "at") at_is_no_node done c.in-Some.field.now _ ns more
    (λ at. true≢false (sym (c.is_at.ensures.1 at) ∙ c.if-is_at.false)) c.in_err-read_used.ensures.none inv.each are
    (sym (inv.split ∙ ap (λ fs. map node_text done ++ fs) c.in-Some.ensures.some) ∙ e))

pub loop-field-preserved : goal.loop-field-preserved
loop-field-preserved c =
    let inv = c.loop-field.invariant in
    let used = c.in_ok-read_used.field-0 in
    let done : List Node = map node_of c.loop-field.nodes.items in
    let pushed : map node_of c.push.new.self.items ≡ done ++ node_of used ∷ [] =
    ap (map node_of) c.push.ensures.items ∙ map_push node_of c.loop-field.nodes.items used in
    record {
      room = omega (arith, c.push.ensures.len, inv.room, ap length c.in-Some.ensures.some);
      each = subst (All IsNode) (sym pushed) (All-push IsNode _ _ inv.each c.in_ok-read_used.ensures.found.0);
      split = spelt_more node_text _ done (node_of used) _ _ _ _ inv.split c.in-Some.ensures.some c.in_ok-read_used.ensures.found.1 pushed;
    }

pub returns-clause-none : goal.returns-clause-none
returns-clause-none c ns more are e =
    let inv = c.loop-field.invariant in
    none_without node_text IsNode (codes "at") at_is_no_node (map node_of c.loop-field.nodes.items) _ ns more c.in_default.ensures.none inv.each
    (sym inv.split ∙ e)
