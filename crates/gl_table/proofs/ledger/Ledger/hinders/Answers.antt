use Rattle.gl_table.proofs.Words.{◌<◌, ◌||◌, ◌∙◌, ◌≡◌, ap, ap₂, arith, false, get_or, hinders_by, length, List, list_any, list_any_at, list_any_more}
use Rattle.gl_table.proofs.Words.{NodeId, nodes_by, option_map_or, refl, slice_get-get_or, sym, take_all}
use Rattle.gl_table.proofs.inside.Orders.{rows_are}
use Rattle.gl_table.proofs.ledger.Ledger.hinders.Goals.{After-hinders_at}
use Rattle.gl_table.proofs.ledger.Ledger.hinders.Goals as goal

abbrev nowhere : NodeId
nowhere = record { key = 0; birth = 0 }

-- what was asked of the node at a place
module _ (c : After-hinders_at) where
  abbrev order : List NodeId
  order = nodes_by c.args.self.now.lists.items c.args.slot

  within : c.loop-place.place < length order
  within =
      let all = c.rows-place-end.ensures ∙ rows_are c.args.self.now.lists.items c.args.slot in let more = c.loop-place-test.true in omega (arith, all, more)

  asked : hinders_by c.args.self.now.headers.entries c.args.slot (get_or order c.loop-place.place nowhere) ≡ c.hinders_at.result
  asked =
      sym (c.hinders_at.ensures
      ∙ ap (λ o. option_map_or (hinders_by c.args.self.now.headers.entries c.args.slot) o false) (slice_get-get_or order c.loop-place.place nowhere within))

pub loop-place-init : goal.loop-place-init
loop-place-init c = refl

pub loop-place-preserved : goal.loop-place-preserved
loop-place-preserved c =
    let at = (goal.at.loop-place-preserved c).After-hinders_at in
    list_any_more (hinders_by c.args.self.now.headers.entries c.args.slot) (order at) c.loop-place.place nowhere (within at)
    ∙ ap₂ (λ a b. a || b) c.loop-place.invariant (asked at ∙ c.if-hinders_at.false)

pub returns-then-hinders_at : goal.returns-then-hinders_at
returns-then-hinders_at c =
    let at = (goal.at.returns-then-hinders_at c).After-hinders_at in
    sym (list_any_at (hinders_by c.args.self.now.headers.entries c.args.slot) (order at) c.loop-place.place nowhere (within at)
    (asked at ∙ c.if-hinders_at.true))

pub returns : goal.returns
returns c =
    let ks : List NodeId = nodes_by c.args.self.now.lists.items c.args.slot in
    let all = c.rows-place-end.ensures ∙ rows_are c.args.self.now.lists.items c.args.slot in
    let past = c.loop-place-test.false in
    sym (ap (list_any (hinders_by c.args.self.now.headers.entries c.args.slot)) (sym (take_all c.loop-place.place ks (omega (arith, all, past))))
    ∙ c.loop-place.invariant)
