use Rattle.gl_table.proofs.Words.{◌∙◌, ap, graph_of, is_read, lent_at, mode_of, never, node_count, option_copied, refl, sym, with_all}
use Rattle.gl_model.proofs.law.Searches.{is_read_at, read_from, search_ends, search_meets, search_up, unread}
use Rattle.gl_table.proofs.effective.reads_above.Goals as goal

pub loop-node-preserved : goal.loop-node-preserved
loop-node-preserved c =
    let found = c.loop-node.found.keys in
    let lent = lent_at found c.as_slice.result.now c.loop-node.at c.get.result c.as_slice.ensures.keys c.get.ensures.lookup in
    search_up (graph_of c.args.graph.now) never (is_read_at (mode_of c.args.list.now)) c.args.n found c.add_missing.new.found.keys c.loop-node.at
    c.in-Some.field-0.now (lent ∙ ap option_copied c.in-Some.is) c.loop-node.invariant refl
    (sym (c.covers.ensures ∙ ap is_read c.mode.ensures) ∙ c.if-covers.false) (c.in_ok-add_missing.ensures ∙ ap (with_all found) c.parents.ensures)

pub returns-then-covers : goal.returns-then-covers
returns-then-covers c =
    let found = c.loop-node.found.keys in
    let g = graph_of c.args.graph.now in
    let h = mode_of c.args.list.now in
    let lent = lent_at found c.as_slice.result.now c.loop-node.at c.get.result c.as_slice.ensures.keys c.get.ensures.lookup in
    sym (read_from g c.law.ensures.lawful h c.args.n c.requires
    (search_meets g never (is_read_at h) c.args.n found c.loop-node.at c.in-Some.field-0.now (lent ∙ ap option_copied c.in-Some.is) c.loop-node.invariant refl
    (sym (c.covers.ensures ∙ ap is_read c.mode.ensures) ∙ c.if-covers.true)))

pub returns : goal.returns
returns c =
    let found = c.loop-node.found.keys in
    let g = graph_of c.args.graph.now in
    let h = mode_of c.args.list.now in
    let lent = lent_at found c.as_slice.result.now c.loop-node.at c.get.result c.as_slice.ensures.keys c.get.ensures.lookup in
    sym (unread g h (node_count g) c.args.n
    (search_ends g never (is_read_at h) c.args.n found c.loop-node.at (lent ∙ ap option_copied c.in_default.is) c.loop-node.invariant))
