use Rattle.std.specs.Prelude.{None, if◌then◌else◌}
use Rattle.std.proofs.Common.{ap, ◌∙◌}
use Rattle.gl_model.specs.State.{State, lives, status_of}
use Rattle.gl_table.specs.Table.{ahead_in}
use Rattle.gl_catalog.specs.Manager.{ManagerView, state_of}
use Rattle.gl_catalog.proofs.manager.Manager.ahead.Goals as goal

pub returns : goal.returns
returns c =
    let ahead = λ (s : State). if lives s c.args.t then ahead_in s c.args.t.slot (status_of s c.args.t.slot) else None in
    c.ahead.ensures ∙ ap (λ (v : ManagerView). ahead (state_of v)) c.self.view_is
