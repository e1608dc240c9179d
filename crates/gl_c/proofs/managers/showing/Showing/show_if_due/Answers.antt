use Rattle.std.proofs.Common.{◌∙◌, ap, subst, sym}
use Rattle.std.specs.Prelude.{Bool, Some, not}
use Rattle.gl_table.specs.Table.{board_of}
use Rattle.gl_catalog.specs.Manager.{state_of}
use Rattle.gl_c.specs.managers.Serving.{ShowsOn}
use Rattle.gl_c.proofs.serving.Showing.{none_known}
use Rattle.gl_c.proofs.managers.showing.Showing.show_if_due.Goals as goal

pub returns-then-is_none-clause-shown : goal.returns-then-is_none-clause-shown
returns-then-is_none-clause-shown c =
    subst (λ (due : Bool). ShowsOn due (board_of (state_of c.args.manager.now)) (Some c.args.self.now.publisher) (Some c.show_if_watched.new.self.publisher))
    (sym (none_known c.args.self.now.parties (c.is_none.ensures ∙ ap not c.if-is_none.true))) c.show_if_watched.ensures.shown
