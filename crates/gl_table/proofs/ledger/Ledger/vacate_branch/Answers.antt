use Rattle.gl_table.proofs.Words.{◌∙◌, age_in, ap, departed, graph_of, holds, is_among_waiters, list_any, members, NL, not, refl, same_mode, same_node}
use Rattle.gl_table.proofs.Words.{slice_index_or, State, state_in, sym, take}
use Rattle.gl_model.proofs.law.Departures.{age_freed_among}
use Rattle.gl_table.proofs.inside.Branches.{before_act, before_unawaited, child_here, child_left, departed_none, end_held, end_left, end_queue, end_whole}
use Rattle.gl_table.proofs.inside.Branches.{item_at, MayClear, one_more, take_all, told_after}
use Rattle.gl_table.proofs.inside.Places.{lists_here, lose_then}
use Rattle.gl_table.proofs.ledger.Ledger.vacate_branch.Goals.{After-intervals-interval-items}
use Rattle.gl_table.proofs.ledger.Ledger.vacate_branch.Goals as goal

abbrev start : After-intervals-interval-items → State
start c = state_in c.args.graph.now c.args.self.now

may : (c : After-intervals-interval-items) → MayClear (start c) c.args.slot c.args.node c.intervals-interval-items.result.now
may c = record {
  law = c.law.ensures.lawful;
  orderly = c.requires.act.orderly;
  active = c.requires.act.active;
  branch = c.requires.branch;
  each = c.intervals-interval-items.ensures;
}

pub loop-interval-init : goal.loop-interval-init
loop-interval-init c = record {
  exact = c.requires.act.exact;
  state = sym (departed_none (start c));
  by_slot = c.requires.tell.by_slot;
  same = λ u. refl;
  orders = lists_here c.args.self.now.lists.items;
}

pub clear-requires-clause-act : goal.clear-requires-clause-act
clear-requires-clause-act c = let is = c.loop-interval.invariant in
    before_act (may (goal.at.clear-requires-clause-act c).After-intervals-interval-items) c.loop-interval.interval-index c.args.graph.now c.loop-interval.self
    is.exact is.state

pub clear-requires-clause-left : goal.clear-requires-clause-left
clear-requires-clause-left c =
    child_left (may (goal.at.clear-requires-clause-left c).After-intervals-interval-items) c.loop-interval.interval-index _
    (item_at c.intervals-interval-items.result.now c.loop-interval.interval-index (record { key = 0; birth = 0 }) c.loop-interval-test.true) _
    c.loop-interval.invariant.state

pub clear-requires-clause-unawaited : goal.clear-requires-clause-unawaited
clear-requires-clause-unawaited c =
    let p = may (goal.at.clear-requires-clause-unawaited c).After-intervals-interval-items in
    ap (λ (x : State). x.queue (slice_index_or c.intervals-interval-items.result.now c.loop-interval.interval-index (record { key = 0; birth = 0 })))
    c.loop-interval.invariant.state
    ∙ before_unawaited p c.loop-interval.interval-index _
    (child_here p c.loop-interval.interval-index _ (item_at c.intervals-interval-items.result.now c.loop-interval.interval-index
    (record { key = 0; birth = 0 }) c.loop-interval-test.true))

pub clear-requires-clause-by_slot : goal.clear-requires-clause-by_slot
clear-requires-clause-by_slot c = c.loop-interval.invariant.by_slot

pub loop-interval-preserved : goal.loop-interval-preserved
loop-interval-preserved c =
    let p = may (goal.at.loop-interval-preserved c).After-intervals-interval-items in
    record {
      exact = c.clear.ensures.exact;
      state = c.clear.ensures.state
          ∙ ap (λ (x : State). departed x (λ q. same_node q (slice_index_or c.intervals-interval-items.result.now c.loop-interval.interval-index
          (record { key = 0; birth = 0 }))) (graph_of c.args.graph.now)) c.loop-interval.invariant.state
          ∙ one_more p c.loop-interval.interval-index _ (item_at c.intervals-interval-items.result.now c.loop-interval.interval-index
          (record { key = 0; birth = 0 }) c.loop-interval-test.true);
      by_slot = c.clear.ensures.by_slot;
      same = λ u. c.clear.ensures.same u ∙ c.loop-interval.invariant.same u;
      orders = lose_then c.loop-interval.invariant.orders c.clear.ensures.orders;
    }

pub vacate-requires-clause-act : goal.vacate-requires-clause-act
vacate-requires-clause-act c = let is = c.loop-interval.invariant in
    before_act (may (goal.at.vacate-requires-clause-act c).After-intervals-interval-items) c.loop-interval.interval-index c.args.graph.now c.loop-interval.self
    is.exact is.state

pub vacate-requires-clause-left : goal.vacate-requires-clause-left
vacate-requires-clause-left c =
    end_left (may (goal.at.vacate-requires-clause-left c).After-intervals-interval-items) c.loop-interval.interval-index
    (take_all c.intervals-interval-items.result.now c.loop-interval.interval-index c.loop-interval-test.false) _ c.loop-interval.invariant.state
    (c.requires.act.orderly.holders_live c.args.slot c.args.node c.requires.branch.holding)

pub vacate-requires-clause-holds : goal.vacate-requires-clause-holds
vacate-requires-clause-holds c =
    let p = may (goal.at.vacate-requires-clause-holds c).After-intervals-interval-items in
    ap (λ (x : State). holds (members x c.args.node) c.args.slot) c.loop-interval.invariant.state
    ∙ ap (λ m. not (same_mode m NL)) (end_held p c.loop-interval.interval-index
    (take_all c.intervals-interval-items.result.now c.loop-interval.interval-index c.loop-interval-test.false)) ∙ c.requires.branch.holding

pub vacate-requires-clause-tell : goal.vacate-requires-clause-tell
vacate-requires-clause-tell c =
    let p = may (goal.at.vacate-requires-clause-tell c).After-intervals-interval-items in
    record {
      by_slot = c.loop-interval.invariant.by_slot;
      untold = λ u h. c.loop-interval.invariant.same u
          ∙ c.requires.tell.untold u (ap (is_among_waiters u)
          (sym (ap (λ (x : State). x.queue c.args.node) c.loop-interval.invariant.state ∙ end_queue p c.loop-interval.interval-index
          (take_all c.intervals-interval-items.result.now c.loop-interval.interval-index c.loop-interval-test.false))) ∙ h);
    }

pub returns-clause-state : goal.returns-clause-state
returns-clause-state c =
    let p = may (goal.at.returns-clause-state c).After-intervals-interval-items in
    c.vacate.ensures.state ∙ ap (λ (x : State). departed x (λ q. same_node q c.args.node) (graph_of c.args.graph.now)) c.loop-interval.invariant.state
    ∙ end_whole p c.loop-interval.interval-index (take_all c.intervals-interval-items.result.now c.loop-interval.interval-index c.loop-interval-test.false)

pub returns-clause-tells : goal.returns-clause-tells
returns-clause-tells c =
    let p = may (goal.at.returns-clause-tells c).After-intervals-interval-items in
    told_after (state_in c.args.graph.now c.args.self.now) (state_in c.args.graph.now c.loop-interval.self) c.args.node c.args.told.now.items
    c.loop-interval.told.items c.vacate.new.told.items (ap (λ (x : State). x.queue c.args.node) c.loop-interval.invariant.state ∙ end_queue p
    c.loop-interval.interval-index (take_all c.intervals-interval-items.result.now c.loop-interval.interval-index c.loop-interval-test.false))
    (λ u. ap (λ (x : State). age_in (x.txns u)) c.loop-interval.invariant.state
    ∙ age_freed_among (λ q. list_any (same_node q) (take c.loop-interval.interval-index c.intervals-interval-items.result.now))
    ((state_in c.args.graph.now c.args.self.now).txns u))
    c.loop-interval.invariant.same c.vacate.ensures.tells

pub returns-clause-orders : goal.returns-clause-orders
returns-clause-orders c = lose_then c.loop-interval.invariant.orders c.vacate.ensures.orders
