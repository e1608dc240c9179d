use Rattle.gl_table.proofs.Words.{◌∙◌, ◌≡◌, ap, books_of, CanEnd, CanHold, false, front, front_at, front_stands, graph_of, held_of, is_among_waiters, List}
use Rattle.gl_table.proofs.Words.{members, not_true, out_of_without, parents_of, pumped, queue_of, refl, rules, same_node, same_node-sym, slot_limit}
use Rattle.gl_table.proofs.Words.{stands_there, State, state_in, subst, sym, true, txns_of, Waiter, WaitWell, Wakes, without_wait, without_waiter, woken_front}
use Rattle.gl_table.proofs.Words.{ℕ}
use Rattle.gl_table.proofs.inside.Granted.{can_wake_front, held-pumped, pumped_by_fields, queue-pumped, status_last, withdrawn_front}
use Rattle.gl_model.proofs.queues.Edits.{without_none}
use Rattle.gl_model.proofs.telling.Fronts.{stands_only, waits_only, well_without}
use Rattle.gl_table.proofs.ledger.Ledger.leave_queue.Goals.{After-as_slice}
use Rattle.gl_table.proofs.ledger.Ledger.leave_queue.Goals as goal

pub drop_wait-requires : goal.drop_wait-requires
drop_wait-requires c = stands_there (state_in c.args.graph.now c.args.self.now) c.requires.waiters.orderly c.args.slot c.args.node c.requires.waits

can_wake : (c : After-as_slice) → CanEnd (books_of c.args.self.now.txn_entries c.args.self.now.lists.items c.args.told.now.items) c.as_slice.result.now
    × ((u : ℕ) → is_among_waiters u c.as_slice.result.now ≡ true
    → CanHold c.args.self.now.lists.items u c.args.node (parents_of (graph_of c.args.graph.now) c.args.node))
can_wake c =
    let s = state_in c.args.graph.now c.args.self.now in
    can_wake_front c.args.graph.now c.args.self.now c.args.node c.requires.waiters c.law.ensures.lawful (without_wait s c.args.slot c.args.status)
    (well_without s c.requires.waiters.orderly c.args.slot c.args.status c.args.node) (λ u h. (out_of_without c.args.slot u (s.queue c.args.node) h).0)
    c.args.told.now.items c.requires.tell.by_slot c.requires.tell.untold _
    (c.as_slice.ensures.value ∙ c.drop_wait.ensures.granted ∙ withdrawn_front s c.requires.waiters.orderly c.requires.waiters.sound.few c.args.slot
    c.args.node c.args.status)

pub wake_granted-requires-clause-can : goal.wake_granted-requires-clause-can
wake_granted-requires-clause-can c = (can_wake (goal.at.wake_granted-requires-clause-can c).After-as_slice).0

pub wake_granted-requires-clause-hold : goal.wake_granted-requires-clause-hold
wake_granted-requires-clause-hold c = (can_wake (goal.at.wake_granted-requires-clause-hold c).After-as_slice).1

abbrev before : goal.After-set_status → State
before c = state_in c.args.graph.now c.args.self.now

abbrev left : goal.After-set_status → State
left c = without_wait (before c) c.args.slot c.args.status

-- the front that was granted
front_is : (c : goal.After-set_status) → front slot_limit (members (before c) c.args.node) (without_waiter c.args.slot ((before c).queue c.args.node))
    ≡ front_at (left c) c.args.node
front_is c = withdrawn_front (before c) c.requires.waiters.orderly c.requires.waiters.sound.few c.args.slot c.args.node c.args.status

woken : (c : goal.After-set_status) → Wakes (books_of c.args.self.now.txn_entries c.args.self.now.lists.items c.args.told.now.items) c.args.node
    (parents_of (before c).graph c.args.node) (front_at (left c) c.args.node)
    (books_of c.wake_granted.new.self.txn_entries c.wake_granted.new.self.lists.items c.wake_granted.new.told.items)
woken c = subst (λ (ws : List Waiter). Wakes (books_of c.args.self.now.txn_entries c.args.self.now.lists.items c.args.told.now.items) c.args.node
    (parents_of (before c).graph c.args.node) ws
    (books_of c.wake_granted.new.self.txn_entries c.wake_granted.new.self.lists.items c.wake_granted.new.told.items))
    (c.as_slice.ensures.value ∙ c.drop_wait.ensures.granted ∙ front_is c) c.wake_granted.ensures.wakes

well : (c : goal.After-set_status) → WaitWell (left c) c.args.node
well c = well_without (before c) c.requires.waiters.orderly c.args.slot c.args.status c.args.node

-- the slot that left is not granted
out : (c : goal.After-set_status) → is_among_waiters c.args.slot (front_at (left c) c.args.node) ≡ false
out c = not_true _ (λ h. (out_of_without c.args.slot c.args.slot ((before c).queue c.args.node) (front_stands (left c) c.args.node (well c) c.args.slot h)).1
    refl)

pub returns-clause-state : goal.returns-clause-state
returns-clause-state c =
    let n = c.args.node in
    let s = before c in
    let b = left c in
    pumped_by_fields b (same_node n) (held_of c.wake_granted.new.self.headers.entries) (queue_of c.wake_granted.new.self.headers.entries)
    (txns_of c.set_status.new.self.items) _
    (ap held_of c.wake_granted.ensures.headers ∙ c.drop_wait.ensures.held ∙ held-pumped b n s.held _ _ refl (front_is c) (λ u q e. refl))
    (ap queue_of c.wake_granted.ensures.headers ∙ c.drop_wait.ensures.queue ∙ queue-pumped b n s.queue _ (front_is c) (λ q e. sym
    (without_none c.args.slot (s.queue q) (stands_only s c.requires.waiters.orderly c.args.slot n c.requires.waits q (same_node-sym n q ∙ e)))))
    (λ u. status_last s c.args.slot c.args.status (front_at b n) _ _ (out c) (woken c).txns c.set_status.ensures.txns u ∙ sym (woken_front b n (well c) u))
    (c.set_status.ensures.len ∙ (woken c).len) ∙ ap (pumped b) (sym (waits_only s c.args.slot n c.requires.waits))

pub returns-clause-woken : goal.returns-clause-woken
returns-clause-woken c = record {
  sound = search rules;
  lists = (woken c).lists;
  tells = (woken c).tells;
}
