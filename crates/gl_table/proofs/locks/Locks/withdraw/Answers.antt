use Rattle.gl_table.proofs.Words.{◌&&◌, ◌<◌, ◌∙◌, ◌≡◌, Agrees, ap, count_of, CountsHeld, false, if◌then◌else◌, is_listed, is_wait, is_waiting_at, IsOrderly}
use Rattle.gl_table.proofs.Words.{keys, length, List, LockList, mode_of, NL, NodeId, not, not-false, not-true, out_of_without, pumped, refl, same_node}
use Rattle.gl_table.proofs.Words.{slice_set, spare, State, state_at, state_in, subst, sym, true, txn_there, waiting_is, waits_there, without_wait, ℕ}
use Rattle.gl_table.proofs.inside.Slots.{by_list-at, set_loses}
use Rattle.gl_table.proofs.inside.Withdrawn.{agrees_withdrawn, counts_withdrawn, room_left, Unlists, unlists_held, unlists_left}
use Rattle.gl_model.proofs.telling.Fronts.{waits_only}
use Rattle.gl_model.proofs.telling.GivenUp.{orderly_without}
use Rattle.gl_table.proofs.locks.Locks.withdraw.Goals.{After-holds}
use Rattle.gl_table.proofs.locks.Locks.withdraw.Goals as goal
use Rattle.gl_table.proofs.inside.Places.{lose_then, lost_one, same_order}

abbrev before : After-holds → State
before c = state_at c.args.self.now

-- the lists, once the wait is out of its queue
abbrev mid : After-holds → List LockList
mid c = c.leave_queue.new.self.lists.items

slot_there : (c : After-holds) → c.args.slot < length (mid c)
slot_there c = subst (λ (k : ℕ). c.args.slot < k) (sym (c.leave_queue.ensures.woken.lists.len ∙ c.args.self.now.sound.lists))
    (c.args.self.now.orderly.below c.args.slot (txn_there ((before c).txns c.args.slot) _ (waiting_is _ c.args.node c.requires.waits).1))

pub leave_queue-requires-clause-tell : goal.leave_queue-requires-clause-tell
leave_queue-requires-clause-tell c = let s : State = state_at c.args.self.now in record {
  by_slot = c.requires.tell.by_slot;
  untold = λ u h. c.requires.tell.untold u
      (ap is_wait (waits_there s c.args.self.now.orderly u c.args.node (out_of_without c.args.slot u (s.queue c.args.node) h).0).1);
}

-- only its node grants
state_is : (c : After-holds) → pumped (without_wait (before c) c.args.slot c.args.status) (same_node c.args.node)
    ≡ state_in c.args.self.now.graph c.leave_queue.new.self
state_is c = sym (c.leave_queue.ensures.state ∙ ap (pumped (without_wait (before c) c.args.slot c.args.status))
    (waits_only (before c) c.args.slot c.args.node c.requires.waits))

module _ (c : After-holds) (ls : List LockList) (unlists : Unlists (mid c) ls c.args.slot c.args.node) where
  agrees : (u : ℕ) → Agrees (state_in c.args.self.now.graph c.leave_queue.new.self) ls u
  agrees u = subst (λ (x : State). Agrees x ls u) (state_is c)
      (agrees_withdrawn (before c) c.args.self.now.orderly c.law.ensures.lawful c.args.slot c.args.node c.args.status c.requires.quiet c.requires.waits
      c.args.self.now.ledger.lists.items (mid c) c.args.self.now.agree c.args.self.now.count c.leave_queue.ensures.woken.lists ls unlists u)

  counts : (u : ℕ) → CountsHeld (state_in c.args.self.now.graph c.leave_queue.new.self) ls u
  counts u = subst (λ (x : State). CountsHeld x ls u) (state_is c)
      (counts_withdrawn (before c) c.args.self.now.orderly c.law.ensures.lawful c.args.slot c.args.node c.args.status c.requires.quiet c.requires.waits
      c.args.self.now.ledger.lists.items (mid c) c.args.self.now.agree c.args.self.now.count c.leave_queue.ensures.woken.lists ls unlists u)

pub leave-requires : goal.leave-requires
leave-requires c = record {
  room = let h = (goal.at.leave-requires c).After-holds in λ _.
      subst (λ (k : ℕ). 0 < k) (by_list-at (λ l. spare l.loose) 0 (mid h) c.args.slot c.index_mut-list.result.now (slot_there h) c.index_mut-list.ensures.value)
      (room_left (before h) c.args.self.now.orderly c.law.ensures.lawful c.args.slot c.args.node c.args.status c.requires.quiet c.requires.waits
      c.args.self.now.ledger.lists.items (mid h) c.args.self.now.agree c.args.self.now.count c.leave_queue.ensures.woken.lists);
}

-- the node was removed from the list, which did not hold it
left : (c : After-holds) (l' : LockList) → c.holds.result ≡ false
    → ((q : NodeId) → mode_of l' q ≡ (if same_node q c.args.node then NL else mode_of c.index_mut-list.result.now q))
    → ((q : NodeId) → is_listed l' q ≡ (is_listed c.index_mut-list.result.now q && not (same_node q c.args.node)))
    → ((q : NodeId) → count_of l' q ≡ count_of c.index_mut-list.result.now q) → Unlists (mid c) (slice_set (mid c) c.args.slot l') c.args.slot c.args.node
left c l' out = unlists_left (mid c) c.args.slot c.args.node c.index_mut-list.result.now (slot_there c) c.index_mut-list.ensures.value
    l' (not-false _ (sym c.holds.ensures ∙ out))

-- or it holds it
stays : (c : After-holds) → c.holds.result ≡ true → Unlists (mid c) (slice_set (mid c) c.args.slot c.index_mut-list.result.now) c.args.slot c.args.node
stays c held = unlists_held (mid c) c.args.slot c.args.node c.index_mut-list.result.now (slot_there c) c.index_mut-list.ensures.value
    (not-true _ (sym c.holds.ensures ∙ held))

orderly : (c : After-holds) → IsOrderly (state_in c.args.self.now.graph c.leave_queue.new.self)
orderly c = subst IsOrderly (sym c.leave_queue.ensures.state)
    (orderly_without (before c) c.args.self.now.orderly c.args.slot c.args.status (is_waiting_at (before c) c.args.slot) c.requires.quiet)

pub invariant_of-self : goal.invariant_of-self
invariant_of-self c = let h = (goal.at.invariant_of-self c).After-holds in
    let was = c.leave_queue.ensures.woken.sound in
    let now = left h c.leave.new.self c.if-not-holds.true c.leave.ensures.modes c.leave.ensures.listed c.leave.ensures.counts in
    record {
      orderly = orderly h;
      sound = record { few = was.few; lists = now.len ∙ was.lists };
      agree = agrees h _ now;
      count = counts h _ now;
    }

pub invariant_of-self-else-not-holds : goal.invariant_of-self-else-not-holds
invariant_of-self-else-not-holds c = let h = (goal.at.invariant_of-self-else-not-holds c).After-holds in
    let was = c.leave_queue.ensures.woken.sound in
    let now = stays h c.if-not-holds.false in
    record {
      orderly = orderly h;
      sound = record { few = was.few; lists = now.len ∙ was.lists };
      agree = agrees h _ now;
      count = counts h _ now;
    }

pub returns-then-not-holds-clause-orders : goal.returns-then-not-holds-clause-orders
returns-then-not-holds-clause-orders c =
    let h = (goal.at.returns-then-not-holds-clause-orders c).After-holds in
    let l = c.index_mut-list.result.now in
    lose_then c.leave_queue.ensures.woken.lists.loses (set_loses (mid h) c.args.slot l c.leave.new.self (slot_there h) c.index_mut-list.ensures.value
    (lost_one l c.leave.new.self c.args.node c.leave.ensures.keys c.leave.ensures.listed))

pub returns-else-not-holds-clause-orders : goal.returns-else-not-holds-clause-orders
returns-else-not-holds-clause-orders c =
    let h = (goal.at.returns-else-not-holds-clause-orders c).After-holds in
    let l = c.index_mut-list.result.now in
    lose_then c.leave_queue.ensures.woken.lists.loses (set_loses (mid h) c.args.slot l l (slot_there h) c.index_mut-list.ensures.value
    (same_order (keys l.entries) (keys l.entries) refl))
