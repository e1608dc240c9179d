use Rattle.std.proofs.Common.{ap, ◌∙◌}
use Rattle.std.specs.Option.{option_copied}
use Rattle.gl_graph.specs.Seen.{with_all}
use Rattle.gl_graph.specs.View.{graph_of}
use Rattle.gl_graph.proofs.Climb.{lent_at}
use Rattle.gl_model.specs.State.{is_write}
use Rattle.gl_parts.specs.Passing.{asked_above, starts}
use Rattle.gl_parts.proofs.Ways.{passing_ends, passing_more, passing_starts}
use Rattle.gl_parts.proofs.passing.passed.Goals as goal

pub loop-node-init : goal.loop-node-init
loop-node-init c =
    let g = graph_of c.args.graph.now in
    passing_starts (is_write c.args.target.mode) g (starts g c.args.target) _ c.in_ok-found.ensures

pub loop-node-preserved : goal.loop-node-preserved
loop-node-preserved c =
    let found = c.loop-node.found.keys in
    let g = graph_of c.args.graph.now in
    let lent = lent_at found c.as_slice.result.now c.loop-node.at c.get.result c.as_slice.ensures.keys c.get.ensures.lookup in
    passing_more (is_write c.args.target.mode) g (starts g c.args.target) found c.add_missing.new.found.keys c.loop-node.at c.in-Some.field-0.now
    (lent ∙ ap option_copied c.in-Some.is) c.loop-node.invariant
    (c.in_ok-add_missing.ensures ∙ ap (with_all found) (c.asked_above.ensures ∙ ap (λ b. asked_above b g c.in-Some.field-0.now) c.covers-writes.ensures))

pub returns : goal.returns
returns c =
    let found = c.loop-node.found.keys in
    let g = graph_of c.args.graph.now in
    let lent = lent_at found c.as_slice.result.now c.loop-node.at c.get.result c.as_slice.ensures.keys c.get.ensures.lookup in
    λ n. passing_ends (is_write c.args.target.mode) g (starts g c.args.target) found c.loop-node.at (lent ∙ ap option_copied c.in_default.is)
    c.loop-node.invariant n
