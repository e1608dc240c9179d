use Rattle.gl_table.proofs.Words.{◌-◌, ◌∙◌, ◌≡◌, Active, ap, covered_children, held_children, is_at_least, refl, S, shed, Some, state_of, status_of, subst, sym}
use Rattle.gl_table.proofs.Words.{TableView, told, true, view_of}
use Rattle.gl_table.proofs.calls.Records.{no_more_kept, number_kept, number_released, sound_shed, state_shed, told_shed}
use Rattle.gl_table.proofs.calls.Orders.{lost_seen}
use Rattle.gl_table.proofs.table.Table.shed_telling.Goals as goal

pub overflow_sub-result : goal.overflow_sub-result
overflow_sub-result c =
    no_more_kept c.self.inside c.self.invariant c.args.t.slot c.args.n
    (subst (λ (v : TableView). status_of (state_of v) c.args.t.slot ≡ Some Active) (sym c.self.view_is) c.requires.acting.active)
    c.shed.new.self c.shed.ensures.state
    (subst (λ (v : TableView). is_at_least ((state_of v).held c.args.t.slot c.args.n) S ≡ true) (sym c.self.view_is) c.requires.reads)
    c.children.result c.children-2.result c.children.ensures c.children-2.ensures c.unwrap_or-held.result c.unwrap_or-kept.result c.unwrap_or-held.ensures
    c.unwrap_or-kept.ensures

pub invariant_of-self : goal.invariant_of-self
invariant_of-self c =
    sound_shed c.self.inside c.self.invariant c.args.t.slot c.args.n
    (subst (λ (v : TableView). status_of (state_of v) c.args.t.slot ≡ Some Active) (sym c.self.view_is) c.requires.acting.active)
    c.shed.new.self c.shed.ensures.state

pub returns-clause-state : goal.returns-clause-state
returns-clause-state c =
    state_shed c.self.inside c.self.invariant c.args.t.slot c.args.n
    (subst (λ (v : TableView). status_of (state_of v) c.args.t.slot ≡ Some Active) (sym c.self.view_is) c.requires.acting.active)
    c.shed.new.self c.shed.ensures.state
    ∙ ap (λ (v : TableView). shed (state_of v) c.args.t.slot c.args.n) c.self.view_is

pub returns-clause-released : goal.returns-clause-released
returns-clause-released c =
    number_released c.self.inside c.self.invariant c.args.t.slot c.args.n
    (subst (λ (v : TableView). status_of (state_of v) c.args.t.slot ≡ Some Active) (sym c.self.view_is) c.requires.acting.active)
    c.shed.new.self c.shed.ensures.state
    (subst (λ (v : TableView). is_at_least ((state_of v).held c.args.t.slot c.args.n) S ≡ true) (sym c.self.view_is) c.requires.reads)
    c.children.result c.children-2.result c.children.ensures c.children-2.ensures c.unwrap_or-held.result c.unwrap_or-kept.result c.unwrap_or-held.ensures
    c.unwrap_or-kept.ensures ∙ ap (λ (v : TableView). covered_children (state_of v) c.args.t.slot c.args.n) c.self.view_is

pub returns-clause-kept : goal.returns-clause-kept
returns-clause-kept c =
    number_kept c.self.inside c.self.invariant c.args.t.slot c.args.n
    (subst (λ (v : TableView). status_of (state_of v) c.args.t.slot ≡ Some Active) (sym c.self.view_is) c.requires.acting.active)
    c.shed.new.self c.shed.ensures.state
    (subst (λ (v : TableView). is_at_least ((state_of v).held c.args.t.slot c.args.n) S ≡ true) (sym c.self.view_is) c.requires.reads)
    c.children.result c.children-2.result c.children.ensures c.children-2.ensures c.unwrap_or-held.result c.unwrap_or-kept.result c.unwrap_or-held.ensures
    c.unwrap_or-kept.ensures
    ∙ ap (λ (v : TableView). held_children (state_of v) c.args.t.slot c.args.n - covered_children (state_of v) c.args.t.slot c.args.n) c.self.view_is

pub returns-clause-told : goal.returns-clause-told
returns-clause-told c =
    told_shed c.self.inside c.self.invariant c.args.t.slot c.args.n
    (subst (λ (v : TableView). status_of (state_of v) c.args.t.slot ≡ Some Active) (sym c.self.view_is) c.requires.acting.active)
    c.shed.new.self c.shed.ensures.state
    c.args.notices.now.items c.shed.new.told.items c.requires.empty c.shed.ensures.tells
    ∙ ap (λ (v : TableView). told (state_of v) (state_of (view_of (record c.self.inside { locks = c.shed.new.self })))) c.self.view_is

pub returns-clause-orders : goal.returns-clause-orders
returns-clause-orders c =
    lost_seen c.self.inside.locks.ledger.lists.items c.shed.new.self.ledger.lists.items c.shed.ensures.orders
    c.args.self.now (view_of (record c.self.inside { locks = c.shed.new.self })) (ap (λ (v : TableView). v.lists) c.self.view_is) refl
