use Rattle.gl_table.proofs.Words.{◌==◌, ◌∙◌, ◌≡◌, ap, filter, filter-from_retain, nobody_told, not, notices_in, refl, rules, state_at, sym}
use Rattle.gl_model.proofs.telling.Fronts.{between_here}
use Rattle.gl_model.proofs.telling.Lists.{told_in_order, told_nothing}
use Rattle.gl_table.proofs.locks.Locks.settle_requester.Goals as goal
use Rattle.gl_table.proofs.inside.Places.{lists_here}

pub returns-then-matches-clause-told : goal.returns-then-matches-clause-told
returns-then-matches-clause-told c =
    let before = state_at c.args.self.now in
    let after = state_at c.settle.new.self in
    let none = c.requires.empty in
    let each = c.settle.ensures.tells.all before (between_here before c.args.self.now.orderly)
    (λ u. ap (λ xs. notices_in xs u) none ∙ sym (nobody_told before u)) in
    let kept : c.retain.new.self.items ≡ filter (λ x. not (x.0.slot == c.args.slot)) c.settle.new.told.items =
    filter-from_retain _ (λ x. not (x.0.slot == c.args.slot)) _ (λ x b f y call. search rules) _ _ c.retain.ensures.filtered in
    kept ∙ ap (filter (λ x. not (x.0.slot == c.args.slot)))
    (told_in_order before after c.args.self.now.orderly.below c.settle.new.told.items c.settle.ensures.tells.by_slot each)

pub returns-else-matches-clause-told : goal.returns-else-matches-clause-told
returns-else-matches-clause-told c =
    let before = state_at c.args.self.now in
    c.requires.empty ∙ told_nothing before before c.args.slot c.args.self.now.orderly.below (λ u. refl)

pub returns-else-matches-clause-orders : goal.returns-else-matches-clause-orders
returns-else-matches-clause-orders c = lists_here c.args.self.now.ledger.lists.items
