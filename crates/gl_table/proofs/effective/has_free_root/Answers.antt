use Rattle.gl_table.proofs.Words.{◌∙◌, ap, graph_of, lent_at, mode_of, no_parents, node_count, not, option_copied, sym, with_all}
use Rattle.gl_model.proofs.law.Effects.{is_x}
use Rattle.gl_model.proofs.law.Searches.{cut_off, free_from, is_top, no_parents_length, search_ends, search_meets, search_past, search_up}
use Rattle.gl_table.proofs.effective.has_free_root.Goals as goal

pub loop-node-preserved-then-holds_x-2 : goal.loop-node-preserved-then-holds_x-2
loop-node-preserved-then-holds_x-2 c =
    let found = c.loop-node.found.keys in
    let g = graph_of c.args.graph.now in
    let lent = lent_at found c.as_slice.result.now c.loop-node.at c.get.result c.as_slice.ensures.keys c.get.ensures.lookup in
    search_past g (is_x g (mode_of c.args.list.now)) (is_top g) c.args.n found c.loop-node.at c.in-Some.field-0.now
    (lent ∙ ap option_copied c.in-Some.is) c.loop-node.invariant (sym c.holds_x-in-Some.ensures ∙ c.if-holds_x-2.true)

pub loop-node-preserved : goal.loop-node-preserved
loop-node-preserved c =
    let found = c.loop-node.found.keys in
    let g = graph_of c.args.graph.now in
    let lent = lent_at found c.as_slice.result.now c.loop-node.at c.get.result c.as_slice.ensures.keys c.get.ensures.lookup in
    search_up g (is_x g (mode_of c.args.list.now)) (is_top g) c.args.n found c.add_missing.new.found.keys c.loop-node.at c.in-Some.field-0.now
    (lent ∙ ap option_copied c.in-Some.is) c.loop-node.invariant (sym c.holds_x-in-Some.ensures ∙ c.if-holds_x-2.false)
    (sym (c.is_empty.ensures ∙ no_parents_length c.parents-parents.result.now ∙ ap no_parents c.parents-parents.ensures) ∙ c.if-is_empty.false)
    (c.in_ok-add_missing.ensures ∙ ap (with_all found) c.parents-parents.ensures)

pub returns-then-is_empty : goal.returns-then-is_empty
returns-then-is_empty c =
    let found = c.loop-node.found.keys in
    let g = graph_of c.args.graph.now in
    let h = mode_of c.args.list.now in
    let lent = lent_at found c.as_slice.result.now c.loop-node.at c.get.result c.as_slice.ensures.keys c.get.ensures.lookup in
    sym (ap not (free_from g h (node_count g) c.args.n (search_meets g (is_x g h) (is_top g) c.args.n found c.loop-node.at c.in-Some.field-0.now
    (lent ∙ ap option_copied c.in-Some.is) c.loop-node.invariant (sym c.holds_x-in-Some.ensures ∙ c.if-holds_x-2.false)
    (sym (c.is_empty.ensures ∙ no_parents_length c.parents-parents.result.now ∙ ap no_parents c.parents-parents.ensures) ∙ c.if-is_empty.true))))

pub returns : goal.returns
returns c =
    let found = c.loop-node.found.keys in
    let g = graph_of c.args.graph.now in
    let h = mode_of c.args.list.now in
    let lent = lent_at found c.as_slice.result.now c.loop-node.at c.get.result c.as_slice.ensures.keys c.get.ensures.lookup in
    sym (ap not (cut_off g c.law.ensures.lawful h c.args.n c.requires
    (search_ends g (is_x g h) (is_top g) c.args.n found c.loop-node.at (lent ∙ ap option_copied c.in_default.is) c.loop-node.invariant)))
