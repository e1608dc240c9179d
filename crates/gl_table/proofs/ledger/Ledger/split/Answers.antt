use Rattle.gl_table.proofs.Words.{◌∙◌, arith, AreAgreed, CanTellWaiters, refl, state_in, sym, waiters_below, X}
use Rattle.gl_table.proofs.inside.Cuts.{agreed_over}
use Rattle.gl_table.proofs.inside.Splits.{agreed_given, all_lost, can_part, counts_parted, exact_split, orders_split, prepared_over, shut_given}
use Rattle.gl_table.proofs.inside.Splits.{state_split, tell_given, tells_split}
use Rattle.gl_table.proofs.inside.TurnedAway.{turned_can, turned_front, turned_room, turned_waits, turning_begins, turning_one}
use Rattle.gl_table.proofs.ledger.Ledger.split.Goals.{After-place}
use Rattle.gl_table.proofs.ledger.Ledger.split.Goals as goal

pub part_all-requires : goal.part_all-requires
part_all-requires c = record {
  can = can_part c.args.graph.now c.args.self.now c.requires.agreed c.args.from c.args.to c.requires.parted c.requires.room;
}

pub place-requires-clause-act : goal.place-requires-clause-act
place-requires-clause-act c =
    let l = c.args.self.now in
    let mid = record l { lists = c.part_all.new.lists } in
    let agreed = agreed_over c.args.graph.now l mid refl refl c.args.from c.args.to _ c.requires.room c.part_all.ensures c.requires.agreed.sound
    c.requires.agreed.orderly c.requires.agreed.agree in
    record {
      exact = record {
        sound = agreed.sound;
        agree = agreed.agree;
        count = counts_parted c.args.graph.now l c.requires.agreed c.args.from c.args.to c.requires.parted c.requires.room mid refl c.part_all.ensures;
      };
      orderly = agreed.orderly;
      active = c.requires.active;
    }

pub place-requires-clause-ready : goal.place-requires-clause-ready
place-requires-clause-ready c =
    prepared_over c.args.graph.now c.args.self.now c.requires.agreed c.args.from c.args.to c.requires.parted c.requires.room
    (record c.args.self.now { lists = c.part_all.new.lists }) c.args.slot c.args.to.key X c.args.prepared refl c.part_all.ensures c.requires.ready

agreed : (c : After-place) → AreAgreed c.args.graph.now c.place.new.self
agreed c = agreed_given c.args.graph.now c.args.self.now c.place.new.self c.args.slot c.args.from c.args.to c.requires.agreed c.requires.active
    c.requires.fresh.live c.requires.parted.differ c.place.ensures.exact c.place.ensures.state

tell : (c : After-place) → CanTellWaiters (state_in c.args.graph.now c.place.new.self) c.args.from c.args.told.now.items
tell c = tell_given c.args.graph.now c.args.self.now c.place.new.self c.args.slot c.args.from c.args.to c.requires.agreed c.requires.active
    c.requires.fresh.live c.requires.parted.differ c.place.ensures.exact c.place.ensures.state c.args.told.now.items c.requires.tell

pub waiters-waiters-requires : goal.waiters-waiters-requires
waiters-waiters-requires c = let a = agreed (goal.at.waiters-waiters-requires c).After-place in record {
  below = λ u h. let low = waiters_below (state_in c.args.graph.now c.place.new.self) a.orderly c.args.from u h in let few = a.sound.few in omega arith;
}

pub loop-waiter-init : goal.loop-waiter-init
loop-waiter-init c = let at = (goal.at.loop-waiter-init c).After-place in
    turning_begins (agreed at) c.args.from (tell at) _
    (λ u. c.waiters-waiters.ensures u ∙ sym (all_lost (state_in c.args.graph.now c.place.new.self) c.args.from u))

pub turn_one_away-requires-clause-can : goal.turn_one_away-requires-clause-can
turn_one_away-requires-clause-can c = let at = (goal.at.turn_one_away-requires-clause-can c).After-place in
    turned_can (agreed at) c.args.from (tell at) c.loop-waiter.invariant _ c.in-Some.ensures.some.member

pub turn_one_away-requires-clause-waits : goal.turn_one_away-requires-clause-waits
turn_one_away-requires-clause-waits c = let at = (goal.at.turn_one_away-requires-clause-waits c).After-place in
    turned_waits (agreed at) c.args.from (tell at) c.loop-waiter.invariant _ c.in-Some.ensures.some.member

pub turn_one_away-requires-clause-front_waits : goal.turn_one_away-requires-clause-front_waits
turn_one_away-requires-clause-front_waits c = let at = (goal.at.turn_one_away-requires-clause-front_waits c).After-place in
    turned_front (agreed at) c.args.from (tell at) c.loop-waiter.invariant _ c.in-Some.ensures.some.member
    (shut_given c.args.graph.now c.args.self.now c.place.new.self c.args.slot c.args.from c.args.to c.requires.agreed c.requires.active
    c.requires.fresh.live c.requires.parted.differ c.place.ensures.exact c.place.ensures.state c.requires.shut_out).stuck

pub turn_one_away-requires-clause-room : goal.turn_one_away-requires-clause-room
turn_one_away-requires-clause-room c = let at = (goal.at.turn_one_away-requires-clause-room c).After-place in
    turned_room (agreed at) c.args.from (tell at) c.loop-waiter.invariant _ c.in-Some.ensures.some.member

pub loop-waiter-preserved : goal.loop-waiter-preserved
loop-waiter-preserved c = let at = (goal.at.loop-waiter-preserved c).After-place in
    turning_one (agreed at) c.args.from (tell at) c.loop-waiter.invariant _ c.in-Some.ensures.some.member _ c.in-Some.ensures.left c.turn_one_away.ensures.ended

pub returns-clause-exact : goal.returns-clause-exact
returns-clause-exact c =
    exact_split c.args.graph.now c.args.self.now c.place.new.self c.args.slot c.args.from c.args.to c.requires.agreed c.requires.active
    c.requires.fresh.live c.requires.parted.differ c.place.ensures.exact c.place.ensures.state c.requires.shut_out c.args.told.now.items c.requires.tell
    c.loop-waiter.invariant c.in_default.ensures.none

pub returns-clause-state : goal.returns-clause-state
returns-clause-state c =
    state_split c.args.graph.now c.args.self.now c.place.new.self c.args.slot c.args.from c.args.to c.requires.agreed c.requires.active
    c.requires.fresh.live c.requires.parted.differ c.place.ensures.exact c.place.ensures.state c.requires.shut_out c.args.told.now.items c.requires.tell
    c.loop-waiter.invariant c.in_default.ensures.none

pub returns-clause-tells : goal.returns-clause-tells
returns-clause-tells c =
    tells_split c.args.graph.now c.args.self.now c.place.new.self c.args.slot c.args.from c.args.to c.requires.agreed c.requires.active
    c.requires.fresh.live c.requires.parted.differ c.place.ensures.exact c.place.ensures.state c.requires.shut_out c.args.told.now.items c.requires.tell
    c.loop-waiter.invariant c.in_default.ensures.none

pub returns-clause-orders : goal.returns-clause-orders
returns-clause-orders c =
    orders_split c.args.self.now.lists.items c.part_all.new.lists.items c.place.new.self.lists.items c.loop-waiter.self.lists.items
    c.part_all.ensures.orders c.place.ensures.orders c.loop-waiter.invariant.over.lists.loses
