use Rattle.gl_lock_lists.proofs.Words.{◌∙◌, ◌≡◌, ap, index_of, NodeId, option_map, same_node, same_node-equal, slice_get, Some, subst, sym}
use Rattle.std.specs.Map.Iter.{deref_pair}
use Rattle.gl_lock_lists.proofs.RowLemmas.{place_of_row}
use Rattle.gl_lock_lists.proofs.rows.stands_at.Goals as goal

pub returns-then-place-len-clause-there : goal.returns-then-place-len-clause-there
returns-then-place-len-clause-there g c is =
    let es = c.args.map.now.entries in
    let row = deref_pair c.unwrap.result in
    let at : slice_get es c.args.place ≡ Some row = sym c.get_index.ensures.entry ∙ ap (option_map deref_pair) c.unwrap.ensures in
    subst (λ (n : NodeId). index_of same_node c.args.map.now n ≡ Some c.args.place)
    (same_node-equal row.0 c.args.node (sym c.eq.ensures ∙ is))
    (place_of_row es c.len.ensures.unique c.args.place row at)
