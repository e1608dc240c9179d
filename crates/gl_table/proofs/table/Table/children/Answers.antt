use Rattle.gl_table.proofs.Words.{◌&&◌, ◌∙◌, ap, held_children, holds, if◌then◌else◌, lives, members, None, Some, state_of, sym, TableView}
use Rattle.gl_table.proofs.calls.Queries.{children_in, passed}
use Rattle.gl_table.proofs.table.Table.children.Goals as goal

pub returns-in-Some : goal.returns-in-Some
returns-in-Some c =
    let s = state_of c.args.self.now in
    c.children.ensures ∙ ap (λ (v : TableView). children_in (state_of v) c.args.t.slot c.args.n) c.self.view_is
    ∙ sym (ap (λ b. if b && holds (members s c.args.n) c.args.t.slot then Some (held_children s c.args.t.slot c.args.n) else None)
    (passed (lives s c.args.t) _ _ (sym c.in-Some.is ∙ c.status.ensures)))
