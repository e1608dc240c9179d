use Rattle.gl_table.proofs.Words.{◌∙◌, ap, refl, released, state_of, TableView, told, view_of}
use Rattle.gl_table.proofs.calls.Calls.{sound_released, state_released}
use Rattle.gl_table.proofs.calls.Ends.{told_ended}
use Rattle.gl_table.proofs.calls.Orders.{losses_of}
use Rattle.gl_table.proofs.table.Table.commit_telling.Goals as goal

pub invariant_of-self : goal.invariant_of-self
invariant_of-self c = sound_released c.self.inside c.self.invariant c.args.t.slot c.end.new.self c.end.ensures.state

pub returns-clause-state : goal.returns-clause-state
returns-clause-state c =
    state_released c.self.inside c.self.invariant c.args.t.slot c.end.new.self c.end.ensures.state
    ∙ ap (λ (v : TableView). released (state_of v) c.args.t.slot) c.self.view_is

pub returns-clause-told : goal.returns-clause-told
returns-clause-told c =
    told_ended c.self.inside c.self.invariant c.args.t.slot c.end.new.self c.end.ensures.state c.args.notices.now.items c.end.new.told.items c.requires.empty
    c.end.ensures.tells ∙ ap (λ (v : TableView). told (state_of v) (state_of (view_of (record c.self.inside { locks = c.end.new.self })))) c.self.view_is

pub returns-clause-orders : goal.returns-clause-orders
returns-clause-orders c = losses_of c.self.inside c.self.view_is c.end.ensures.orders refl
