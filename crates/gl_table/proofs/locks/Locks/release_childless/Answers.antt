use Rattle.gl_table.proofs.Words.{◌-◌, ◌==◌, ◌∙◌, ◌≡◌, ap, arith, is_wait, length, List, nat_tests, NodeId, nodes_by, none_some, other_number, same_number}
use Rattle.gl_table.proofs.Words.{slice_get, slice_get_past, split, State, state_at, subst, sym, waits_there, ℕ}
use Rattle.gl_lock_lists.proofs.Lists.{place_from}
use Rattle.gl_table.proofs.inside.Back.{back_begins, back_one, back_tells, IsGoingBack, listed_held, none_held, some_held}
use Rattle.gl_table.proofs.inside.Orders.{childless_there, parent_there, rows_are}
use Rattle.gl_table.proofs.inside.Places.{lists_here, lose_then}
use Rattle.gl_table.proofs.locks.Locks.release_childless.Goals as goal

pub loop-at-init : goal.loop-at-init
loop-at-init c =
    let order : List NodeId = nodes_by c.args.self.now.ledger.lists.items c.args.slot in
    let all : c.rows-at.result ≡ length order = c.rows-at.ensures ∙ rows_are c.args.self.now.ledger.lists.items c.args.slot in
    record {
      within = omega (arith, all);
      counted = omega arith;
      going = back_begins (state_at c.args.self.now) c.args.slot c.args.mark order c.args.told.now.items c.requires.active c.requires.tell;
      passed = λ none i n le there. absurd (none_some (sym (slice_get_past order i (omega (arith, all))) ∙ there));
      orders = lists_here c.args.self.now.ledger.lists.items;
    }

-- the node at the place is held, and no child of it
pub release-requires-clause-holds : goal.release-requires-clause-holds
release-requires-clause-holds c =
    let l = c.loop-at.self in
    let found = childless_there l.ledger.lists.items c.args.slot (c.loop-at.at - 1) c.in-Some.node (sym c.in-Some.ensures) in
    listed_held (state_at l) l.orderly c.args.slot c.loop-at.invariant.going.active l.ledger.lists.items (l.agree c.args.slot) (l.count c.args.slot)
    c.in-Some.node found.2

pub release-requires-clause-childless : goal.release-requires-clause-childless
release-requires-clause-childless c =
    let l = c.loop-at.self in
    let found = childless_there l.ledger.lists.items c.args.slot (c.loop-at.at - 1) c.in-Some.node (sym c.in-Some.ensures) in
    (none_held (state_at l) l.orderly c.args.slot c.loop-at.invariant.going.active l.ledger.lists.items (l.agree c.args.slot) (l.count c.args.slot)
    c.in-Some.node found.1).0

pub release-requires-clause-tell : goal.release-requires-clause-tell
release-requires-clause-tell c = let l = c.loop-at.self in let tell = c.loop-at.invariant.going.tell in record {
  by_slot = tell.by_slot;
  untold = λ u h. tell.untold u (ap is_wait (waits_there (state_at l) l.orderly u c.in-Some.node h).1);
}

pub loop-at-preserved-in-Some : goal.loop-at-preserved-in-Some
loop-at-preserved-in-Some c =
    let l = c.loop-at.self in
    let is = c.loop-at.invariant in
    let s : State = state_at l in
    let at : ℕ = c.loop-at.at - 1 in
    let found = childless_there l.ledger.lists.items c.args.slot at c.in-Some.node (sym c.in-Some.ensures) in
    let held = listed_held s l.orderly c.args.slot is.going.active l.ledger.lists.items (l.agree c.args.slot) (l.count c.args.slot) c.in-Some.node found.2 in
    let none = none_held s l.orderly c.args.slot is.going.active l.ledger.lists.items (l.agree c.args.slot) (l.count c.args.slot) c.in-Some.node found.1 in
    let leaves = c.release.ensures.place in
    let fewer = leaves.fewer in
    record {
      within = omega (arith, fewer);
      counted = omega (arith, fewer);
      going = subst (λ (x : State). IsGoingBack (state_at c.args.self.now) x c.args.slot c.args.mark (nodes_by c.args.self.now.ledger.lists.items c.args.slot)
          (nodes_by c.release.new.self.ledger.lists.items c.args.slot) c.args.told.now.items c.release.new.told.items) (sym c.release.ensures.state)
          (back_one is.going l.orderly c.in-Some.node held none.1 at (omega arith) found.0 leaves c.release.ensures.tells);
      passed = λ first i n le there. absurd (omega arith);
      orders = lose_then is.orders c.release.ensures.orders;
    }

pub loop-at-preserved : goal.loop-at-preserved
loop-at-preserved c =
    let l = c.loop-at.self in
    let is = c.loop-at.invariant in
    let at : ℕ = c.loop-at.at - 1 in
    record {
      within = omega arith;
      counted = is.counted;
      going = is.going;
      passed = λ first i n le there. split (i == at)
          (λ e. some_held (state_at l) l.orderly c.args.slot is.going.active l.ledger.lists.items (l.agree c.args.slot) (l.count c.args.slot) n
          (parent_there l.ledger.lists.items c.args.slot at n (sym c.in_default.ensures)
          (ap (slice_get (nodes_by l.ledger.lists.items c.args.slot)) (sym (same_number i at e)) ∙ there)))
          (λ e. let apart = other_number i at e in is.passed first i n (grind (arith, nat_tests)) there);
      orders = is.orders;
    }

pub returns-clause-unlocks : goal.returns-clause-unlocks
returns-clause-unlocks c = let is = c.loop-at.invariant in let fewer = is.going.fewer in let counted = is.counted in
    (is.going.gone, is.going.unlocks, omega arith)

pub returns-clause-stays : goal.returns-clause-stays
returns-clause-stays c = λ none n h.
    let place = place_from (nodes_by c.loop-at.self.ledger.lists.items c.args.slot) c.args.mark n h in
    let low = place.1 in
    c.loop-at.invariant.passed none place.0 n (omega (arith, low)) place.2

pub returns-clause-tells : goal.returns-clause-tells
returns-clause-tells c = back_tells c.loop-at.invariant.going
