use Rattle.gl_interpreter.proofs.Words.{◌+◌, ◌<◌, [], ◌∙◌, ◌∷◌, ◌≡◌, ap, arith, drop, first_unused, get_or, get_or-map, length, length-map, List, map, node_of}
use Rattle.gl_interpreter.proofs.Words.{refl, script_of, some_unused, sym, Used, ℕ}
use Rattle.std.proofs.lemmas.List.{drop_more}
use Rattle.gl_script.specs.Views.{nodes_of}
use Rattle.gl_interpreter.proofs.Printing.{head_unused, head_used, none_unused}
use Rattle.gl_interpreter.proofs.Writing.{Hands-none, Hands-then}
use Rattle.gl_interpreter.proofs.answers.put_unused_listed.Goals as goal

-- of the remaining nodes the first is the present one
left : (used slice : List Used) (i : ℕ) (u d : Used) → slice ≡ used → i < length slice → u ≡ get_or slice i d → drop i (map node_of used) ≡ node_of u
    ∷ drop (i + 1) (map node_of used)
left used slice i u d value low is =
    let low' : i < length used = omega (arith, low, ap length value) in
    let low'' : i < length (map node_of used) = omega (arith, low', length-map used node_of) in
    drop_more (map node_of used) i (node_of d) low''
    ∙ ap (λ n. n ∷ drop (i + 1) (map node_of used)) (get_or-map node_of used i d (node_of d) low' ∙ ap node_of (sym (is ∙ ap (λ xs. get_or xs i d) value)))

pub loop-node-init : goal.loop-node-init
loop-node-init g c = record { text = Hands-none _ _; first = refl; some = refl }

pub returns-then-put_unused-clause-text : goal.returns-then-put_unused-clause-text
returns-then-put_unused-clause-text g c =
    let s = script_of c.args.desk.now in
    let nodes = nodes_of c.args.lists.now in
    let here = left c.args.lists.now.nodes.items c.as_slice-node-items.result.now c.loop-node.node-index c.node-item.result _
    c.as_slice-node-items.ensures.value c.loop-node-test.true c.node-item.is in
    let unused = head_unused s (node_of c.node-item.result) (drop (c.loop-node.node-index + 1) nodes) (sym c.put_unused.ensures.is ∙ c.if-put_unused.true) in
    rw (c.loop-node.invariant.first ∙ ap (first_unused s) here ∙ unused.0) (Hands-then _ _ _ _ _ _ _ _ c.loop-node.invariant.text c.put_unused.ensures.text)

pub returns-then-put_unused-clause-is : goal.returns-then-put_unused-clause-is
returns-then-put_unused-clause-is g c =
    let s = script_of c.args.desk.now in
    let nodes = nodes_of c.args.lists.now in
    let here = left c.args.lists.now.nodes.items c.as_slice-node-items.result.now c.loop-node.node-index c.node-item.result _
    c.as_slice-node-items.ensures.value c.loop-node-test.true c.node-item.is in
    let unused = head_unused s (node_of c.node-item.result) (drop (c.loop-node.node-index + 1) nodes) (sym c.put_unused.ensures.is ∙ c.if-put_unused.true) in
    sym (c.loop-node.invariant.some ∙ ap (some_unused s) here ∙ unused.1)

pub loop-node-preserved : goal.loop-node-preserved
loop-node-preserved g c =
    let s = script_of c.args.desk.now in
    let nodes = nodes_of c.args.lists.now in
    let here = left c.args.lists.now.nodes.items c.as_slice-node-items.result.now c.loop-node.node-index c.node-item.result _
    c.as_slice-node-items.ensures.value c.loop-node-test.true c.node-item.is in
    let in_use = sym c.put_unused.ensures.is ∙ c.if-put_unused.false in
    let used = head_used s (node_of c.node-item.result) (drop (c.loop-node.node-index + 1) nodes) in_use in
    record {
      text = rw (none_unused s (node_of c.node-item.result ∷ []) (head_used s (node_of c.node-item.result) [] in_use).1) at
          (Hands-then _ _ _ _ _ _ _ _ c.loop-node.invariant.text c.put_unused.ensures.text);
      first = c.loop-node.invariant.first ∙ ap (first_unused s) here ∙ used.0;
      some = c.loop-node.invariant.some ∙ ap (some_unused s) here ∙ used.1;
    }
