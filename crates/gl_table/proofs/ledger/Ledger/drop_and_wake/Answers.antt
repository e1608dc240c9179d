use Rattle.gl_table.proofs.Words.{◌&&◌, ◌==◌, ◌∙◌, ◌≡◌, ap, books_of, Bool, CanEnd, CanHold, false, front, front_at, graph_of, held_of, if◌then◌else◌}
use Rattle.gl_table.proofs.Words.{is_among_waiters, List, members, NL, NodeId, parents_of, queue_of, refl, rules, same_node, slot_limit, State, state_in, subst}
use Rattle.gl_table.proofs.Words.{sym, true, txns_of, Waiter, Wakes, well_granted, with_grant, with_mode, woken_front, ℕ}
use Rattle.gl_table.proofs.inside.Granted.{can_wake_front, held-pumped, members-with_grant, pumped_by_fields, queue-pumped, released_front}
use Rattle.gl_table.proofs.ledger.Ledger.drop_and_wake.Goals.{After-as_slice}
use Rattle.gl_table.proofs.ledger.Ledger.drop_and_wake.Goals as goal

can_wake : (c : After-as_slice) → CanEnd (books_of c.args.self.now.txn_entries c.args.self.now.lists.items c.args.told.now.items) c.as_slice.result.now
    × ((u : ℕ) → is_among_waiters u c.as_slice.result.now ≡ true
    → CanHold c.args.self.now.lists.items u c.args.node (parents_of (graph_of c.args.graph.now) c.args.node))
can_wake c =
    let s = state_in c.args.graph.now c.args.self.now in
    can_wake_front c.args.graph.now c.args.self.now c.args.node c.requires.waiters c.law.ensures.lawful (with_grant s c.args.slot c.args.node NL)
    (well_granted s c.requires.waiters.orderly c.args.slot c.args.node NL c.args.node) (λ u h. h) c.args.told.now.items c.requires.tell.by_slot
    c.requires.tell.untold _ (c.as_slice.ensures.value ∙ c.drop_grant.ensures.granted ∙ released_front s c.requires.waiters.orderly
    c.requires.waiters.sound.few c.args.slot c.args.node)

pub wake_granted-requires-clause-can : goal.wake_granted-requires-clause-can
wake_granted-requires-clause-can c = (can_wake (goal.at.wake_granted-requires-clause-can c).After-as_slice).0

pub wake_granted-requires-clause-hold : goal.wake_granted-requires-clause-hold
wake_granted-requires-clause-hold c = (can_wake (goal.at.wake_granted-requires-clause-hold c).After-as_slice).1

abbrev before : goal.After-wake_granted → State
before c = state_in c.args.graph.now c.args.self.now

abbrev dropped : goal.After-wake_granted → State
dropped c = with_grant (before c) c.args.slot c.args.node NL

-- the front that was granted
front_is : (c : goal.After-wake_granted) → front slot_limit (with_mode (members (before c) c.args.node) c.args.slot NL) ((before c).queue c.args.node)
    ≡ front_at (dropped c) c.args.node
front_is c = released_front (before c) c.requires.waiters.orderly c.requires.waiters.sound.few c.args.slot c.args.node

woken : (c : goal.After-wake_granted) → Wakes (books_of c.args.self.now.txn_entries c.args.self.now.lists.items c.args.told.now.items) c.args.node
    (parents_of (before c).graph c.args.node) (front_at (dropped c) c.args.node)
    (books_of c.wake_granted.new.self.txn_entries c.wake_granted.new.self.lists.items c.wake_granted.new.told.items)
woken c = subst (λ (ws : List Waiter). Wakes (books_of c.args.self.now.txn_entries c.args.self.now.lists.items c.args.told.now.items) c.args.node
    (parents_of (before c).graph c.args.node) ws
    (books_of c.wake_granted.new.self.txn_entries c.wake_granted.new.self.lists.items c.wake_granted.new.told.items))
    (c.as_slice.ensures.value ∙ c.drop_grant.ensures.granted ∙ front_is c) c.wake_granted.ensures.wakes

pub returns-clause-state : goal.returns-clause-state
returns-clause-state c =
    let b = dropped c in
    pumped_by_fields b (same_node c.args.node) (held_of c.wake_granted.new.self.headers.entries) (queue_of c.wake_granted.new.self.headers.entries)
    (txns_of c.wake_granted.new.self.txn_entries.items) _ (ap held_of c.wake_granted.ensures.headers ∙ c.drop_grant.ensures.held
    ∙ held-pumped b c.args.node (before c).held _ _ (members-with_grant (before c) c.args.slot c.args.node NL) (front_is c) apart)
    (ap queue_of c.wake_granted.ensures.headers ∙ c.drop_grant.ensures.queue ∙ queue-pumped b c.args.node (before c).queue _ (front_is c) (λ q e. refl))
    (λ u. (woken c).txns u ∙ sym (woken_front b c.args.node (well_granted (before c) c.requires.waiters.orderly c.args.slot c.args.node NL c.args.node) u))
    (woken c).len
  where
    apart : (u : ℕ) (q : NodeId) → same_node q c.args.node ≡ false → (before c).held u q ≡ (dropped c).held u q
    apart u q e = sym (ap (λ x. if x then NL else (before c).held u q) (off (u == c.args.slot) e))
      where
        off : (a : Bool) {b : Bool} → b ≡ false → (a && b) ≡ false
        off true h = h
        off false h = refl

pub returns-clause-woken : goal.returns-clause-woken
returns-clause-woken c = record {
  sound = search rules;
  lists = (woken c).lists;
  tells = (woken c).tells;
}
