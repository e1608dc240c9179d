use Rattle.gl_table.proofs.Words.{◌∙◌, ap, front_at, NL, refl, State, state_at, state_of, subst, TableView, Told, told, unlocked, view_of, WakesTold}
use Rattle.gl_table.proofs.Words.{with_grant}
use Rattle.gl_table.proofs.calls.Calls.{may_unlock, sound_unlocked, state_unlocked, told_unlocked}
use Rattle.gl_table.proofs.calls.Orders.{losses_of}
use Rattle.gl_table.proofs.table.Table.unlock_telling.Goals as goal

pub release-requires-clause-childless : goal.release-requires-clause-childless
release-requires-clause-childless c =
    (may_unlock c.self.inside c.self.invariant c.args.self.now c.self.view_is c.args.t c.args.n c.in_ok-check_active.field-0 c.in_ok-check_childless.field-0
    c.in_ok-check_active.ensures c.in_ok-check_childless.ensures).3

pub invariant_of-self : goal.invariant_of-self
invariant_of-self c =
    let may = may_unlock c.self.inside c.self.invariant c.args.self.now c.self.view_is c.args.t c.args.n c.in_ok-check_active.field-0
    c.in_ok-check_childless.field-0 c.in_ok-check_active.ensures c.in_ok-check_childless.ensures in
    sound_unlocked c.self.inside c.self.invariant c.args.t.slot c.args.n may.0 may.2 c.release.new.self c.release.ensures.state

pub returns-clause-state : goal.returns-clause-state
returns-clause-state c =
    let may = may_unlock c.self.inside c.self.invariant c.args.self.now c.self.view_is c.args.t c.args.n c.in_ok-check_active.field-0
    c.in_ok-check_childless.field-0 c.in_ok-check_active.ensures c.in_ok-check_childless.ensures in
    state_unlocked c.self.inside c.self.invariant c.args.t.slot c.args.n may.0 may.2 c.release.new.self c.release.ensures.state
    ∙ ap (λ (v : TableView). unlocked (state_of v) c.args.t.slot c.args.n) c.self.view_is

pub returns-clause-told : goal.returns-clause-told
returns-clause-told c =
    let may = may_unlock c.self.inside c.self.invariant c.args.self.now c.self.view_is c.args.t c.args.n c.in_ok-check_active.field-0
    c.in_ok-check_childless.field-0 c.in_ok-check_active.ensures c.in_ok-check_childless.ensures in
    let first : State = state_at c.self.inside.locks in
    let tells = subst (λ (list : Told). WakesTold first.txns c.args.n (front_at (with_grant first c.args.t.slot c.args.n NL) c.args.n) list
    c.release.new.told.items) c.requires.empty c.release.ensures.tells in
    told_unlocked c.self.inside c.self.invariant c.args.t.slot c.args.n may.0 may.2 c.release.new.self c.release.ensures.state c.release.new.told.items tells
    ∙ ap (λ (v : TableView). told (state_of v) (state_of (view_of (record c.self.inside { locks = c.release.new.self })))) c.self.view_is

pub returns-clause-orders : goal.returns-clause-orders
returns-clause-orders c = losses_of c.self.inside c.self.view_is c.release.ensures.orders refl
