use Rattle.gl_table.proofs.Words.{◌∙◌, ◌≡◌, Active, ap, GoesBack, nodes_of, refl, Some, state_of, status_of, subst, sym, TableView, told, view_of}
use Rattle.gl_table.proofs.calls.Back.{seen_back, sound_back, told_back}
use Rattle.gl_table.proofs.calls.Calls.{is_active, test_passed}
use Rattle.gl_table.proofs.calls.Orders.{losses_of}
use Rattle.gl_table.proofs.table.Table.release_since_telling.Goals.{After-release_since}
use Rattle.gl_table.proofs.table.Table.release_since_telling.Goals as goal

active : (c : After-release_since) → status_of (state_of (view_of c.self.inside)) c.args.t.slot ≡ Some Active
active c =
    subst (λ (v : TableView). status_of (state_of v) c.args.t.slot ≡ Some Active) (sym c.self.view_is)
    (is_active (state_of c.args.self.now) c.args.t (test_passed _ c.in_ok-check_active.field-0 c.in_ok-check_active.ensures))

pub invariant_of-self : goal.invariant_of-self
invariant_of-self c = let back = c.release_since.ensures.back in
    sound_back c.self.inside c.self.invariant c.args.t.slot (active c) c.release_since.new.self back.0 back.1.unlocks

pub returns-clause-back : goal.returns-clause-back
returns-clause-back c =
    let back = c.release_since.ensures.back in
    let after = view_of (record c.self.inside { locks = c.release_since.new.self }) in (
      back.0,
      subst (λ (v : TableView). GoesBack (state_of v) c.args.t.slot c.args.mark (nodes_of v c.args.t.slot) back.0 (nodes_of after c.args.t.slot)
          (state_of after)) c.self.view_is
          (seen_back c.self.inside c.self.invariant c.args.t.slot (active c) c.release_since.new.self c.args.mark back.0 back.1),
      back.2,
    )

pub returns-clause-told : goal.returns-clause-told
returns-clause-told c =
    told_back c.self.inside c.self.invariant c.args.t.slot (active c) c.release_since.new.self c.args.notices.now.items c.release_since.new.told.items
    c.requires.empty c.release_since.ensures.tells
    ∙ ap (λ (v : TableView). told (state_of v) (state_of (view_of (record c.self.inside { locks = c.release_since.new.self })))) c.self.view_is

pub returns-clause-orders : goal.returns-clause-orders
returns-clause-orders c = losses_of c.self.inside c.self.view_is c.release_since.ensures.orders refl
