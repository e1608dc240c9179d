use Rattle.std.specs.Prelude.{◌≡◌, Err, None, Ok, Some}
use Rattle.std.proofs.Common.{ap, rules, sym, ◌∙◌}
use Rattle.gl_graph.proofs.Unrefused.{verdict_ok}
use Rattle.gl_graph.specs.Refusals.{first_refusal, verdict}
use Rattle.gl_model.specs.Calls.{lock_tests}
use Rattle.gl_table.specs.Table.{state_of as table_state}
use Rattle.gl_table.proofs.calls.Locking.{test_refused}
use Rattle.gl_catalog.specs.Manager.{ManagerView, state_of}
use Rattle.gl_catalog.specs.Paths.{parent_missed}
use Rattle.gl_catalog.proofs.PathSteps.{looked}
use Rattle.gl_catalog.proofs.manager.Manager.parent_wanted.Goals as goal

pub returns-in-Ok : goal.returns-in-Ok
returns-in-Ok c = λ counts.
    let tests = λ (v : ManagerView). first_refusal (lock_tests (state_of v) c.args.t c.args.node c.args.mode) in
    let passed : Ok tt ≡ verdict (first_refusal (lock_tests (table_state c.self.inside.table) c.args.t c.args.node c.args.mode)) = search rules in
    let none : tests c.args.self.now ≡ None = sym (ap tests c.self.view_is) ∙ verdict_ok _ tt passed in
    sym (looked (state_of c.args.self.now) c.args.t (c.args.node, c.args.mode) counts ∙ ap parent_missed none)

pub returns-in-Err : goal.returns-in-Err
returns-in-Err c = λ counts.
    let tests = λ (v : ManagerView). first_refusal (lock_tests (state_of v) c.args.t c.args.node c.args.mode) in
    let refused : Err c.in-Err.refusal ≡ verdict (first_refusal (lock_tests (table_state c.self.inside.table) c.args.t c.args.node c.args.mode)) =
    search rules in
    let some : tests c.args.self.now ≡ Some c.in-Err.refusal = sym (ap tests c.self.view_is) ∙ test_refused _ c.in-Err.refusal refused in
    c.missing_parent.ensures ∙ sym (looked (state_of c.args.self.now) c.args.t (c.args.node, c.args.mode) counts ∙ ap parent_missed some)
