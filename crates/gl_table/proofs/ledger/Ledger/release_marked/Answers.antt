use Rattle.gl_table.proofs.Words.{◌∙◌, and-not_self, ap, arith, clash, holds, is_wait, keys, members, none_some, refl, slice_get_past, stands_other, State}
use Rattle.gl_table.proofs.Words.{state_in, status_in, subst, sym, waits_there, ℕ}
use Rattle.gl_table.proofs.inside.Departures.{leaving_begins}
use Rattle.gl_table.proofs.inside.Marked.{IsReleasing, marked_childless, marked_counted, releasing_ends, releasing_modes, releasing_one}
use Rattle.gl_table.proofs.inside.Places.{lists_here, lose_then, loses_then, lost_one, same_order}
use Rattle.gl_table.proofs.ledger.Ledger.release_marked.Goals as goal

pub loop-at-init : goal.loop-at-init
loop-at-init c = record {
  sound = c.requires.others.sound;
  within = omega arith;
  passed = λ i n le at. absurd (none_some (sym (slice_get_past (keys c.args.list.now.entries) i (omega arith)) ∙ at));
  releasing = record {
    leaving = leaving_begins (state_in c.args.graph.now c.args.self.now) c.args.slot c.args.self.now.lists.items c.args.told.now.items c.requires.others.orderly
        c.requires.others.agree c.requires.others.count c.requires.tell;
    marked = c.requires.marked;
    covered = λ q h. clash h (and-not_self (holds (members (state_in c.args.graph.now c.args.self.now) q) c.args.slot));
  };
  orders = lists_here c.args.self.now.lists.items;
  order = same_order (keys c.args.list.now.entries) (keys c.args.list.now.entries) refl;
}

pub take_marked-requires-clause-marked : goal.take_marked-requires-clause-marked
take_marked-requires-clause-marked c = record {
  childless = marked_childless c.loop-at.invariant.releasing (ap is_wait c.requires.active);
  counted = λ n q listed mark. marked_counted c.loop-at.invariant.releasing (ap is_wait c.requires.active) c.law.ensures.lawful n listed q;
}

pub drop_and_wake-requires-clause-waiters : goal.drop_and_wake-requires-clause-waiters
drop_and_wake-requires-clause-waiters c =
    let is = c.loop-at.invariant.releasing.leaving in
    let other = λ (u : ℕ). stands_other (state_in c.args.graph.now c.loop-at.self) is.orderly c.args.slot
    (ap (λ x. is_wait (status_in x)) is.txn ∙ ap is_wait c.requires.active) u c.in-Some.child in
    record { sound = c.loop-at.invariant.sound; orderly = is.orderly; agree = λ u h. is.agree u (other u h); count = λ u h. is.count u (other u h) }

pub drop_and_wake-requires-clause-tell : goal.drop_and_wake-requires-clause-tell
drop_and_wake-requires-clause-tell c = let is = c.loop-at.invariant.releasing.leaving in record {
  by_slot = is.by_slot;
  untold = λ u h. is.untold u (ap is_wait (waits_there (state_in c.args.graph.now c.loop-at.self) is.orderly u c.in-Some.child h).1);
}

pub loop-at-preserved-in-Some : goal.loop-at-preserved-in-Some
loop-at-preserved-in-Some c = record {
  sound = c.drop_and_wake.ensures.woken.sound;
  within = c.in-Some.ensures.len;
  passed = c.in-Some.ensures.passed;
  releasing = subst (λ (x : State). IsReleasing (state_in c.args.graph.now c.args.self.now) x c.args.slot c.args.node c.drop_and_wake.new.self.lists.items
      c.take_marked.new.self c.args.told.now.items c.drop_and_wake.new.told.items) (sym c.drop_and_wake.ensures.state)
      (releasing_one c.loop-at.invariant.releasing (ap is_wait c.requires.active) c.law.ensures.lawful c.in-Some.child c.in-Some.ensures.taken.was
      c.in-Some.ensures.taken.was_marked c.in-Some.ensures.taken.listed c.in-Some.ensures.taken.modes c.in-Some.ensures.taken.counts
      c.drop_and_wake.ensures.woken.lists c.drop_and_wake.ensures.woken.tells);
  orders = lose_then c.loop-at.invariant.orders c.drop_and_wake.ensures.woken.lists.loses;
  order = loses_then c.loop-at.invariant.order
      (lost_one c.loop-at.list c.take_marked.new.self c.in-Some.child c.in-Some.ensures.taken.keys c.in-Some.ensures.taken.listed);
}

pub returns-clause-others : goal.returns-clause-others
returns-clause-others c = let is = c.loop-at.invariant.releasing.leaving in
    record { sound = c.loop-at.invariant.sound; orderly = is.orderly; agree = is.agree; count = is.count }

pub returns-clause-released : goal.returns-clause-released
returns-clause-released c = let is = c.loop-at.invariant.releasing in record {
  state = releasing_ends is (λ i n le at. c.loop-at.invariant.passed i n (omega arith) at);
  active = ap status_in is.leaving.txn ∙ c.requires.active;
  marked = is.marked;
  modes = releasing_modes is (λ i n le at. c.loop-at.invariant.passed i n (omega arith) at);
}

pub returns-clause-tells : goal.returns-clause-tells
returns-clause-tells c = let is = c.loop-at.invariant.releasing.leaving in
    record { by_slot = is.by_slot; others = λ s between same. (is.tells s between same).1; own = is.own }
