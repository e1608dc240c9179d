use Rattle.gl_lock_lists.proofs.Words.{◌<◌, ◌∙◌, ◌≡◌, ap, get_or, length, lookup, rules, same_node, slice_get, slice_get-get_or, Some, subst, sym}
use Rattle.std.proofs.Common.{IfSome}
use Rattle.std.proofs.lemmas.Map.Entries.{lookup_from_place}
use Rattle.gl_lock_lists.proofs.RowLemmas.{node_equivalence, nothing_after}
use Rattle.gl_lock_lists.proofs.node_map.NodeMap.get_index.Goals as goal

pub returns-in_ok-node-clause-value : goal.returns-in_ok-node-clause-value
returns-in_ok-node-clause-value g c =
    let rows = c.self.inside.rows.items in
    let row = c.in_ok-node.field-0.now in
    let none = c.is_empty.ensures.0 c.if-is_empty.true in
    let was = ap (λ v. v.entries) (sym c.self.view_is) ∙ nothing_after rows c.self.inside.map.entries none in
    let within : c.args.place < length rows = search rules in
    let is : get_or rows c.args.place row ≡ row = search rules in
    let at : slice_get rows c.args.place ≡ Some row = slice_get-get_or rows c.args.place row within ∙ ap Some is in
    ap (lookup (same_node row.0)) was ∙ lookup_from_place node_equivalence rows c.args.place row.0 row.1 c.self.invariant.distinct at

pub returns-else-is_empty-clause-value : goal.returns-else-is_empty-clause-value
returns-else-is_empty-clause-value g c =
    let same : c.args.self.now.entries ≡ c.self.inside.map.entries = search rules in
    subst (λ es. IfSome c.get_index.result (λ p. lookup (same_node p.0.now) es ≡ Some p.1.now)) (sym same) c.get_index.ensures.value
