use Rattle.gl_table.proofs.Words.{◌∙◌, ap, false, hinders_by, option_map_or}
use Rattle.gl_table.proofs.inside.Orders.{node_there}
use Rattle.gl_table.proofs.ledger.Ledger.hinders_at.Goals as goal

pub returns-in-Some : goal.returns-in-Some
returns-in-Some c =
    c.hinders.ensures
    ∙ ap (λ o. option_map_or (hinders_by c.args.self.now.headers.entries c.args.slot) o false)
    (c.in-Some.ensures ∙ node_there c.args.self.now.lists.items c.args.slot c.args.place)

pub returns-in-None : goal.returns-in-None
returns-in-None c =
    ap (λ o. option_map_or (hinders_by c.args.self.now.headers.entries c.args.slot) o false)
    (c.in-None.ensures ∙ node_there c.args.self.now.lists.items c.args.slot c.args.place)
