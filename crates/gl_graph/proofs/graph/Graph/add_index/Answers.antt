use Rattle.gl_graph.proofs.Words.{ap, arith, Err, graph_of, index_refusal, ◌∙◌}
use Rattle.std.proofs.lemmas.Result.{err_from_is_err_and}
use Rattle.gl_graph.proofs.Over.{over_none}
use Rattle.gl_graph.proofs.Unrefused.{index_again, refused_by, verdict_ok}
use Rattle.gl_graph.proofs.graph.Graph.add_index.Goals as goal

pub returns-in_err-check_index-clause-refuses : goal.returns-in_err-check_index-clause-refuses
returns-in_err-check_index-clause-refuses c =
    let p = err_from_is_err_and c.from_residual.result c.from_residual.ensures.1 in
    refused_by (index_refusal (graph_of c.args.self.now) c.args.parents.now c.args.file c.args.bounds.now) c.in_err-check_index.field-0.0
    c.from_residual.result c.in_err-check_index.ensures (p.1 ∙ ap Err p.2)

pub add_index_unrefused-requires : goal.add_index_unrefused-requires
add_index_unrefused-requires c =
    over_none (graph_of c.args.self.now) c.args.parents.now c.args.file c.args.bounds.now
    (index_again (graph_of c.args.self.now) c.args.parents.now c.args.file c.args.bounds.now (verdict_ok _ _ c.in_ok-check_index.ensures))

pub returns-clause-refuses : goal.returns-clause-refuses
returns-clause-refuses c = grind arith
