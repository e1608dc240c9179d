use Rattle.gl_table.proofs.Words.{◌==◌, ◌∙◌, ◌≡◌, ap, false, graph_of, holds, members, mode_of, NL, not, same_mode, same_number, split, State, state_in, sym}
use Rattle.gl_table.proofs.inside.Marked.{list_there}
use Rattle.gl_model.proofs.law.Keeps.{nl_is}
use Rattle.gl_table.proofs.inside.Branches.{departed_nothing}
use Rattle.gl_table.proofs.inside.Slots.{by_list-at}
use Rattle.gl_table.proofs.ledger.Ledger.clear.Goals.{After-holds}
use Rattle.gl_table.proofs.ledger.Ledger.clear.Goals as goal
use Rattle.gl_table.proofs.inside.Places.{lists_here}

-- what the list says is what the slot holds
holding : (c : After-holds) → c.holds.result ≡ holds (members (state_in c.args.graph.now c.args.self.now) c.args.node) c.args.slot
holding c = c.holds.ensures
    ∙ ap (λ m. not (same_mode m NL)) (sym (by_list-at (λ l. mode_of l c.args.node) NL c.args.self.now.lists.items c.args.slot c.index.result.now
    (list_there c.args.self.now (graph_of c.args.graph.now) c.requires.act.exact.sound c.requires.act.orderly c.args.slot c.requires.act.active)
    c.index.ensures) ∙ (c.requires.act.exact.agree c.args.slot).modes c.args.node)

pub vacate-requires-clause-holds : goal.vacate-requires-clause-holds
vacate-requires-clause-holds c = sym (holding (goal.at.vacate-requires-clause-holds c).After-holds) ∙ c.if-holds.true

pub returns-else-holds-clause-state : goal.returns-else-holds-clause-state
returns-else-holds-clause-state c =
    let s : State = state_in c.args.graph.now c.args.self.now in
    let off : holds (members s c.args.node) c.args.slot ≡ false = sym (holding (goal.at.returns-else-holds-clause-state c).After-holds) ∙ c.if-holds.false in
    sym (departed_nothing s c.requires.act.orderly c.args.node
    (λ u. split (u == c.args.slot) (λ e. ap (λ v. s.held v c.args.node) (same_number u c.args.slot e) ∙ nl_is (s.held c.args.slot c.args.node) off)
    (λ e. c.requires.left.alone u e)) c.requires.unawaited)

pub returns-else-holds-clause-orders : goal.returns-else-holds-clause-orders
returns-else-holds-clause-orders c = lists_here c.args.self.now.lists.items
