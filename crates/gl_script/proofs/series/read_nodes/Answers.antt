use Rattle.std.proofs.Common.{◌≡◌, List, [], ◌∷◌, ◌++◌, All, length, map, ap, ◌∙◌, sym, subst, arith}
use Rattle.std.proofs.lemmas.List.{map_push}
use Rattle.std.proofs.lemmas.List.Elements.{All-push}
use Rattle.gl_script.specs.Grammar.{Text, Node, IsNode, node_text}
use Rattle.gl_script.specs.Views.{node_of}
use Rattle.gl_script.proofs.ListTexts.{none_at, spelt_more}
use Rattle.gl_script.proofs.series.read_nodes.Goals as goal

pub returns-in_err-read_used-clause-none : goal.returns-in_err-read_used-clause-none
returns-in_err-read_used-clause-none c =
    let done : List Text = map node_text (map node_of c.loop-field.nodes.items) in
    rw c.from_residual.ensures (λ ns are e.
    none_at node_text IsNode done c.in-Some.field.now _ ns c.in_err-read_used.ensures.none are
    (sym (c.loop-field.invariant.split ∙ ap (λ fs. done ++ fs) c.in-Some.ensures.some) ∙ e))

pub loop-field-preserved : goal.loop-field-preserved
loop-field-preserved c =
    let inv = c.loop-field.invariant in
    let used = c.in_ok-read_used.field-0 in
    let done : List Node = map node_of c.loop-field.nodes.items in
    let pushed : map node_of c.push.new.self.items ≡ done ++ node_of used ∷ [] =
    ap (map node_of) c.push.ensures.items ∙ map_push node_of c.loop-field.nodes.items used in
    record {
      room = omega (arith, c.push.ensures.len, inv.room, ap length c.in-Some.ensures.some);
      each = subst (All IsNode) (sym pushed) (All-push IsNode _ _ inv.each c.in_ok-read_used.ensures.found.0);
      split = spelt_more node_text _ done (node_of used) _ _ _ _ inv.split c.in-Some.ensures.some c.in_ok-read_used.ensures.found.1 pushed;
    }
