use Rattle.gl_table.proofs.Words.{◌&&◌, ◌-◌, ◌||◌, ◌∙◌, ◌≡◌, ap, arith, false, holds, in_no_queue, is_wait, length, List, list_any, members, nl_is, NodeId}
use Rattle.gl_table.proofs.Words.{nodes_by, none_some, not, or-false, refl, same_node, slice_get, slice_get-get_or, Some, stands_other, State, state_in}
use Rattle.gl_table.proofs.Words.{status_in, subst, sym, take, take_all, true, waits_there, ℕ}
use Rattle.gl_table.proofs.inside.Departures.{holds_after, IsLeaving, leaving_begins, leaving_one, leaving_order, leaving_out, left_released}
use Rattle.gl_table.proofs.inside.Orders.{all_but_this, among_these, listed_as, node_there, rows_are, unique_at}
use Rattle.gl_table.proofs.inside.Places.{lists_here, lose_then}
use Rattle.gl_table.proofs.ledger.Ledger.leave_all.Goals.{In-Some}
use Rattle.gl_table.proofs.ledger.Ledger.leave_all.Goals as goal

pub loop-at-init : goal.loop-at-init
loop-at-init c =
    let s : State = state_in c.args.graph.now c.args.self.now in
    let order : List NodeId = nodes_by c.args.self.now.lists.items c.args.slot in
    let all : c.rows-at.result ≡ length order = c.rows-at.ensures ∙ rows_are c.args.self.now.lists.items c.args.slot in
    record {
      sound = c.requires.exact.sound;
      order = refl;
      within = omega (arith, all);
      listed = λ q. ap (list_any (same_node q)) (take_all c.rows-at.result order (omega (arith, all))) ∙ listed_as c.args.self.now.lists.items c.args.slot q
          ∙ (c.requires.exact.agree c.args.slot).listed q ∙ ap (λ b. holds (members s q) c.args.slot || b)
          (in_no_queue s c.requires.orderly c.args.slot c.requires.quiet q) ∙ or-false (holds (members s q) c.args.slot);
      leaving = leaving_begins s c.args.slot c.args.self.now.lists.items c.args.told.now.items c.requires.orderly
          (λ u e. c.requires.exact.agree u) (λ u e. c.requires.exact.count u) c.requires.tell;
      orders = lists_here c.args.self.now.lists.items;
    }

-- the node is at its place, and is held
module _ (c : In-Some) where
  abbrev order : List NodeId
  order = nodes_by c.args.self.now.lists.items c.args.slot

  there : slice_get order (c.loop-at.at - 1) ≡ Some c.in-Some.node
  there =
      ap (λ o. slice_get o (c.loop-at.at - 1)) (sym c.loop-at.invariant.order) ∙ sym (node_there c.loop-at.self.lists.items c.args.slot (c.loop-at.at - 1))
      ∙ sym c.in-Some.ensures

  held : holds (members (state_in c.args.graph.now c.loop-at.self) c.in-Some.node) c.args.slot ≡ true
  held = sym (c.loop-at.invariant.listed c.in-Some.node) ∙ among_these order (c.loop-at.at - 1) c.loop-at.at c.in-Some.node (omega arith) there

pub drop_and_wake-requires-clause-holds : goal.drop_and_wake-requires-clause-holds
drop_and_wake-requires-clause-holds c = held (goal.at.drop_and_wake-requires-clause-holds c).In-Some

pub drop_and_wake-requires-clause-waiters : goal.drop_and_wake-requires-clause-waiters
drop_and_wake-requires-clause-waiters c =
    let is = c.loop-at.invariant.leaving in
    let other = λ (u : ℕ). stands_other (state_in c.args.graph.now c.loop-at.self) is.orderly c.args.slot
    (ap (λ x. is_wait (status_in x)) is.txn ∙ c.requires.quiet) u c.in-Some.node in
    record { sound = c.loop-at.invariant.sound; orderly = is.orderly; agree = λ u h. is.agree u (other u h); count = λ u h. is.count u (other u h) }

pub drop_and_wake-requires-clause-tell : goal.drop_and_wake-requires-clause-tell
drop_and_wake-requires-clause-tell c = let is = c.loop-at.invariant.leaving in record {
  by_slot = is.by_slot;
  untold = λ u h. is.untold u (ap is_wait (waits_there (state_in c.args.graph.now c.loop-at.self) is.orderly u c.in-Some.node h).1);
}

pub loop-at-preserved-in-Some : goal.loop-at-preserved-in-Some
loop-at-preserved-in-Some c =
    let p = (goal.at.loop-at-preserved-in-Some c).In-Some in
    let ends = c.drop_and_wake.ensures in
    let left = c.loop-at.invariant.leaving in
    record {
      sound = ends.woken.sound;
      order = leaving_order left c.requires.quiet c.in-Some.node (held p) ends.woken.lists ∙ c.loop-at.invariant.order;
      within = omega arith;
      listed = λ q. all_but_this (order p) (c.loop-at.at - 1) c.loop-at.at c.in-Some.node (omega arith) (there p)
          (unique_at c.args.self.now.lists.items c.args.slot) q
          ∙ ap (λ b. b && not (same_node q c.in-Some.node)) (c.loop-at.invariant.listed q)
          ∙ sym (ap (λ (x : State). holds (members x q) c.args.slot) ends.state ∙ holds_after left c.requires.quiet c.in-Some.node (held p) q);
      leaving = subst (λ (x : State). IsLeaving (state_in c.args.graph.now c.args.self.now) x c.args.slot c.drop_and_wake.new.self.lists.items
          c.args.told.now.items c.drop_and_wake.new.told.items) (sym ends.state)
          (leaving_one left c.requires.quiet c.in-Some.node (held p) c.law.ensures.lawful left.agree left.count ends.woken.lists ends.woken.tells);
      orders = lose_then c.loop-at.invariant.orders ends.woken.lists.loses;
    }

-- a node is at each place
pub loop-at-preserved : goal.loop-at-preserved
loop-at-preserved c =
    let order : List NodeId = nodes_by c.args.self.now.lists.items c.args.slot in
    let none : NodeId = record { key = 0; birth = 0 } in
    let within = c.loop-at.invariant.within in
    absurd (none_some (c.in_default.ensures ∙ node_there c.loop-at.self.lists.items c.args.slot (c.loop-at.at - 1)
    ∙ ap (λ o. slice_get o (c.loop-at.at - 1)) c.loop-at.invariant.order ∙ slice_get-get_or order (c.loop-at.at - 1) none (omega (arith, within))))

pub returns-clause-left : goal.returns-clause-left
returns-clause-left c =
    let is = c.loop-at.invariant in
    let last : c.loop-at.at ≡ 0 = omega arith in
    let none : (q : NodeId) → holds (members (state_in c.args.graph.now c.loop-at.self) q) c.args.slot ≡ false =
    λ q. sym (is.listed q) ∙ ap (λ (k : ℕ). list_any (same_node q) (take k (nodes_by c.args.self.now.lists.items c.args.slot))) last in
    record {
      most = is.leaving.most;
      state = left_released is.leaving c.requires.quiet c.requires.orderly none;
      free = λ q. nl_is ((state_in c.args.graph.now c.loop-at.self).held c.args.slot q) (none q);
      out = leaving_out is.leaving c.requires.quiet;
    }

pub returns-clause-tells : goal.returns-clause-tells
returns-clause-tells c = let is = c.loop-at.invariant.leaving in
    record { by_slot = is.by_slot; others = λ s between same. (is.tells s between same).1; own = is.own }
