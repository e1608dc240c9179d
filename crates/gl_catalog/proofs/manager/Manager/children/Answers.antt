use Rattle.std.specs.Prelude.{◌&&◌, None, Some, if◌then◌else◌}
use Rattle.std.proofs.Common.{ap, ◌∙◌}
use Rattle.gl_header.specs.Header.{holds}
use Rattle.gl_model.specs.Calls.{held_children}
use Rattle.gl_model.specs.State.{State, lives, members}
use Rattle.gl_catalog.specs.Manager.{ManagerView, state_of}
use Rattle.gl_catalog.proofs.manager.Manager.children.Goals as goal

pub returns : goal.returns
returns c =
    let counted = λ (s : State). if lives s c.args.t && holds (members s c.args.n) c.args.t.slot then Some (held_children s c.args.t.slot c.args.n) else None in
    c.children.ensures ∙ ap (λ (v : ManagerView). counted (state_of v)) c.self.view_is
