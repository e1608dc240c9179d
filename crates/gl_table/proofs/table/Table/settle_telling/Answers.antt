use Rattle.gl_table.proofs.Words.{◌∙◌, ap, IsLawful, refl, Settled, SettlesKeeping, state_of, subst, TableView, told, view_of}
use Rattle.gl_table.proofs.calls.Ends.{kept_settled, sound_settled, state_settled, told_settled}
use Rattle.gl_model.proofs.telling.Lists.{settled_same, told_settled_same}
use Rattle.gl_table.proofs.calls.Orders.{losses_of}
use Rattle.gl_table.proofs.table.Table.settle_telling.Goals as goal

pub invariant_of-self : goal.invariant_of-self
invariant_of-self c = sound_settled c.self.inside c.self.invariant c.args.t.slot c.settle.new.self c.settle.new.deadlock c.settle.ensures.state

pub returns-clause-state : goal.returns-clause-state
returns-clause-state c =
    subst (λ (v : TableView). Settled (state_of v).victims (state_of v) c.args.t.slot
    (state_of (view_of (record c.self.inside { locks = c.settle.new.self; deadlock = c.settle.new.deadlock })))) c.self.view_is
    (state_settled c.self.inside c.self.invariant c.args.t.slot c.settle.new.self c.settle.new.deadlock c.settle.ensures.state)

pub returns-clause-deadlock : goal.returns-clause-deadlock
returns-clause-deadlock c =
    subst (λ (v : TableView). SettlesKeeping (state_of v).victims (state_of v) c.args.t.slot v.deadlock
    (state_of (view_of (record c.self.inside { locks = c.settle.new.self; deadlock = c.settle.new.deadlock }))) c.settle.new.deadlock) c.self.view_is
    (kept_settled c.self.inside c.self.invariant c.args.t.slot c.settle.new.self c.settle.new.deadlock c.settle.ensures.state c.settle.ensures.deadlock)

pub returns-clause-told : goal.returns-clause-told
returns-clause-told c =
    told_settled c.self.inside c.self.invariant c.args.t.slot c.settle.new.self c.settle.new.deadlock c.settle.ensures.state c.args.notices.now.items
    c.settle.new.told.items c.requires.empty c.settle.ensures.tells
    ∙ ap (λ (v : TableView). told (state_of v) (state_of (view_of (record c.self.inside { locks = c.settle.new.self; deadlock = c.settle.new.deadlock }))))
    c.self.view_is

pub returns-clause-idle : goal.returns-clause-idle
returns-clause-idle c = λ none. (
  returns-clause-told c ∙ told_settled_same (state_of c.args.self.now).victims (state_of c.args.self.now)
      (state_of (view_of (record c.self.inside { locks = c.settle.new.self; deadlock = c.settle.new.deadlock }))) c.args.t.slot
      (subst (λ (v : TableView). IsLawful (state_of v)) c.self.view_is c.self.invariant.lawful) none (returns-clause-state c),
  settled_same (state_of c.args.self.now).victims (state_of c.args.self.now)
      (state_of (view_of (record c.self.inside { locks = c.settle.new.self; deadlock = c.settle.new.deadlock }))) c.args.t.slot none (returns-clause-state c),
)

pub returns-clause-orders : goal.returns-clause-orders
returns-clause-orders c = losses_of c.self.inside c.self.view_is c.settle.ensures.orders refl
