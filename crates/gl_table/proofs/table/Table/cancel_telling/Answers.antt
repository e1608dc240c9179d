use Rattle.gl_table.proofs.Words.{◌∙◌, ◌≡◌, ap, cancelled, is_waiting_at, refl, state_of, TableView, told_but, true, view_of}
use Rattle.gl_table.proofs.calls.Ends.{sound_cancelled, state_cancelled, told_cancelled}
use Rattle.gl_table.proofs.calls.Orders.{losses_of}
use Rattle.gl_table.proofs.table.Table.cancel_telling.Goals.{After-withdraw}
use Rattle.gl_table.proofs.table.Table.cancel_telling.Goals as goal

waits : (c : After-withdraw) → is_waiting_at (state_of (view_of c.self.inside)) c.args.t.slot c.in_ok-node.node ≡ true
waits c = ap (λ (v : TableView). is_waiting_at (state_of v) c.args.t.slot c.in_ok-node.node) c.self.view_is ∙ c.in_ok-node.ensures.waits

pub invariant_of-self : goal.invariant_of-self
invariant_of-self c =
    sound_cancelled c.self.inside c.self.invariant c.args.t.slot c.in_ok-node.node (waits (goal.at.invariant_of-self c).After-withdraw) c.withdraw.new.self
    c.withdraw.ensures.state

pub returns-clause-state : goal.returns-clause-state
returns-clause-state c =
    state_cancelled c.self.inside c.self.invariant c.args.t.slot c.in_ok-node.node (waits (goal.at.returns-clause-state c).After-withdraw) c.withdraw.new.self
    c.withdraw.ensures.state ∙ ap (λ (v : TableView). cancelled (state_of v) c.args.t.slot) c.self.view_is

pub returns-clause-told : goal.returns-clause-told
returns-clause-told c =
    told_cancelled c.self.inside c.self.invariant c.args.t.slot c.in_ok-node.node (waits (goal.at.returns-clause-told c).After-withdraw) c.withdraw.new.self
    c.withdraw.ensures.state c.args.notices.now.items c.withdraw.new.told.items c.requires.empty c.withdraw.ensures.tells
    ∙ ap (λ (v : TableView). told_but c.args.t.slot (state_of v) (state_of (view_of (record c.self.inside { locks = c.withdraw.new.self })))) c.self.view_is

pub returns-clause-orders : goal.returns-clause-orders
returns-clause-orders c = losses_of c.self.inside c.self.view_is c.withdraw.ensures.orders refl
