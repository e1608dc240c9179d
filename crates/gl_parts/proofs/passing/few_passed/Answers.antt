use Rattle.std.proofs.Common.{ap, ◌∙◌}
use Rattle.std.specs.Option.{option_copied}
use Rattle.gl_graph.specs.Seen.{with_all}
use Rattle.gl_graph.specs.View.{graph_of}
use Rattle.gl_graph.proofs.Climb.{lent_at}
use Rattle.gl_model.specs.State.{is_write}
use Rattle.gl_parts.specs.Passing.{asked_above, starts}
use Rattle.gl_parts.proofs.Ways.{passing_ends, passing_more}
use Rattle.gl_parts.proofs.passing.few_passed.Goals as goal

pub loop-node-preserved : goal.loop-node-preserved
loop-node-preserved c =
    let found = c.loop-node.found.items in
    let g = graph_of c.args.graph.now in
    let lent = lent_at found c.as_slice.result.now c.loop-node.at c.get.result c.as_slice.ensures.value c.get.ensures.lookup in
    passing_more (is_write c.args.target.mode) g (starts g c.args.target) found c.add_few.new.found.items c.loop-node.at c.in-Some.field-0.now
    (lent ∙ ap option_copied c.in-Some.is) c.loop-node.invariant
    (c.add_few.ensures c.if-not-add_few.false
    ∙ ap (with_all found) (c.asked_above.ensures ∙ ap (λ b. asked_above b g c.in-Some.field-0.now) c.covers-writes.ensures))

pub returns : goal.returns
returns c =
    let found = c.loop-node.found.items in
    let g = graph_of c.args.graph.now in
    let lent = lent_at found c.as_slice.result.now c.loop-node.at c.get.result c.as_slice.ensures.value c.get.ensures.lookup in
    λ n. passing_ends (is_write c.args.target.mode) g (starts g c.args.target) found c.loop-node.at (lent ∙ ap option_copied c.in_default.is)
    c.loop-node.invariant n
