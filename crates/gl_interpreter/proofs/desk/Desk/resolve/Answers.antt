use Rattle.gl_interpreter.proofs.Words.{◌++◌, ◌<◌, [], ◌∙◌, ◌∷◌, ◌≤◌, ap, ap₂, arith, get_or, get_or-map, get_or_default, length, length-map, length-take, map}
use Rattle.gl_interpreter.proofs.Words.{node_id, node_ids, node_of, None, script_of, sym, take_more, Used}
use Rattle.gl_interpreter.proofs.Registers.{on_ok}
use Rattle.gl_interpreter.proofs.desk.Desk.resolve.Goals as goal

pub loop-node-preserved : goal.loop-node-preserved
loop-node-preserved c =
    let s = script_of c.args.self.now in
    let nodes = c.args.nodes.now.items in
    let all = node_ids s (map node_of nodes) in
    let i = c.loop-node.node-index in
    let short : length c.loop-node.ids.items ≤ i = omega (arith, ap length c.loop-node.invariant, length-take i all) in
    let ok = c.try_push.ensures.variant.1 (omega (arith, short, c.loop-node-test.true, c.as_slice-node-items.ensures.fits)) in
    let pushed = on_ok _ ok c.try_push.ensures.ok in
    let value = c.as_slice-node-items.ensures.value in
    let low : i < length nodes = omega (arith, c.loop-node-test.true, ap length value) in
    let low' : i < length (map node_of nodes) = omega (arith, low, length-map nodes node_of) in
    let low'' : i < length all = omega (arith, low', length-map (map node_of nodes) (node_id s)) in
    let d : Used = record { name = record { items = [] }; interval = None } in
    let item = get_or-map (node_id s) (map node_of nodes) i (node_of d) (node_id s (node_of d)) low'
    ∙ ap (node_id s) (get_or-map node_of nodes i d (node_of d) low) in
    pushed ∙ ap₂ (λ xs x. xs ++ x ∷ []) c.loop-node.invariant
    (c.node_id.ensures ∙ ap (λ u. node_id s (node_of u))
    (c.node-item.is ∙ get_or_default c.as_slice-node-items.result.now i _ d c.loop-node-test.true ∙ ap (λ xs. get_or xs i d) value) ∙ sym item)
    ∙ sym (take_more all i (node_id s (node_of d)) low'')
