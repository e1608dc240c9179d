use Rattle.std.proofs.Common.{Err, sym, ap, ◌∙◌}
use Rattle.std.proofs.lemmas.Result.{err_from_is_err_and}
use Rattle.gl_graph.specs.Refusals.{births_worn}
use Rattle.gl_graph.specs.View.{View, graph_of}
use Rattle.gl_catalog.specs.Manager.{ManagerView, state_of}
use Rattle.gl_catalog.proofs.Insertions.{inactive_refused}
use Rattle.gl_catalog.proofs.manager.Manager.check_record.Goals as goal

pub returns-in_err-check_active : goal.returns-in_err-check_active
returns-in_err-check_active c =
    let exit = err_from_is_err_and c.from_residual.result c.from_residual.ensures.1 in
    let graph = c.graph.ensures ∙ ap (λ (v : ManagerView). v.table.graph) c.self.view_is in
    let births = ap (λ (v : View). births_worn (graph_of v)) (sym graph) ∙ sym c.worn.ensures ∙ c.if-worn.false in
    exit.1 ∙ ap Err exit.2 ∙ inactive_refused (state_of c.args.self.now) c.args.t c.args.file c.args.keys.now births _ c.in_err-check_active.ensures
