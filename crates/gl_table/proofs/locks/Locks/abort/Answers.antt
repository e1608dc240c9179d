use Rattle.gl_table.proofs.Words.{◌∙◌, ◌≡◌, ap, cancelled, false, is_wait, IsBySlot, ListsLose, Locks, rules, State, state_at, status_of, subst, sym}
use Rattle.gl_table.proofs.inside.Departures.{free_cancelled, free_idle, free_same, IsFree}
use Rattle.gl_table.proofs.locks.Locks.abort.Goals.{in-None-1, in-Some+in-Active-1, in-Some-Waiting, Joined-txn_entry}
use Rattle.gl_table.proofs.locks.Locks.abort.Goals as goal
use Rattle.gl_table.proofs.inside.Places.{lists_here, lose_then}

abbrev before : Joined-txn_entry → State
before c = state_at c.args.self.now

-- if nothing was cancelled, all is as it was
idle : (c : Joined-txn_entry) → is_wait (status_of (before c) c.args.slot) ≡ false → c.match-txn_entry.self ≡ c.args.self.now
    → c.match-txn_entry.told ≡ c.args.told.now
    → IsFree (before c) (state_at c.match-txn_entry.self) c.args.slot c.args.told.now.items c.match-txn_entry.told.items
idle c quiet self told =
    free_same (before c) (before c) _ c.args.slot c.args.told.now.items c.args.told.now.items _ (ap state_at self) (ap (λ x. x.items) told)
    (free_idle (before c) c.args.slot c.args.told.now.items c.args.self.now.orderly quiet c.requires.tell.untold)

-- the slot does not wait, once its wait is cancelled, if it has one
free : (c : Joined-txn_entry) → IsFree (before c) (state_at c.match-txn_entry.self) c.args.slot c.args.told.now.items c.match-txn_entry.told.items
free c = elim c.match-txn_entry.branch [
  | in-Some-Waiting w ↦
      free_same (before c) (cancelled (before c) c.args.slot) _ c.args.slot c.args.told.now.items w.withdraw.new.told.items _
      (ap state_at w.self-is ∙ w.withdraw.ensures.state) (ap (λ x. x.items) w.told-is)
      (free_cancelled (before c) c.args.self.now.orderly c.args.slot w.in-Some-Waiting.node (search rules) c.args.told.now.items w.withdraw.new.told.items
      w.withdraw.ensures.tells c.requires.tell.untold)
  | in-Some+in-Active-1 w ↦ idle c (search rules) w.self-is w.told-is
  | in-None-1 w ↦ idle c (search rules) w.self-is w.told-is
]

-- only the node of the wait left the lists
cancelled_orders : (c : Joined-txn_entry) → ListsLose c.args.self.now.ledger.lists.items c.match-txn_entry.self.ledger.lists.items
cancelled_orders c = elim c.match-txn_entry.branch [
  | in-Some-Waiting w ↦ subst (λ (l : Locks). ListsLose c.args.self.now.ledger.lists.items l.ledger.lists.items) (sym w.self-is) w.withdraw.ensures.orders
  | in-Some+in-Active-1 w ↦ subst (λ (l : Locks). ListsLose c.args.self.now.ledger.lists.items l.ledger.lists.items) (sym w.self-is)
      (lists_here c.args.self.now.ledger.lists.items)
  | in-None-1 w ↦ subst (λ (l : Locks). ListsLose c.args.self.now.ledger.lists.items l.ledger.lists.items) (sym w.self-is)
      (lists_here c.args.self.now.ledger.lists.items)
]

pub end-requires-clause-quiet : goal.end-requires-clause-quiet
end-requires-clause-quiet c = (free (goal.at.end-requires-clause-quiet c).Joined-txn_entry).quiet

-- what was told so far is by slot
by_slot : (c : Joined-txn_entry) → IsBySlot c.match-txn_entry.told.items
by_slot c = elim c.match-txn_entry.branch [
  | in-Some-Waiting w ↦ subst IsBySlot (sym (ap (λ x. x.items) w.told-is)) w.withdraw.ensures.tells.by_slot
  | in-Some+in-Active-1 w ↦ subst IsBySlot (sym (ap (λ x. x.items) w.told-is)) c.requires.tell.by_slot
  | in-None-1 w ↦ subst IsBySlot (sym (ap (λ x. x.items) w.told-is)) c.requires.tell.by_slot
]

pub end-requires-clause-tell : goal.end-requires-clause-tell
end-requires-clause-tell c = let at = (goal.at.end-requires-clause-tell c).Joined-txn_entry in record { by_slot = by_slot at; untold = (free at).untold }

pub returns-clause-state : goal.returns-clause-state
returns-clause-state c = c.end.ensures.state ∙ (free (goal.at.returns-clause-state c).Joined-txn_entry).released

pub returns-clause-tells : goal.returns-clause-tells
returns-clause-tells c = let f = free (goal.at.returns-clause-tells c).Joined-txn_entry in let ends = c.end.ensures.tells in record {
  by_slot = ends.by_slot;
  others = λ s between same. let now = f.tells s between same in ends.others s now.0 now.1;
  own = ends.own ∙ f.own;
}

pub returns-clause-orders : goal.returns-clause-orders
returns-clause-orders c =
    let at = (goal.at.returns-clause-orders c).Joined-txn_entry in
    lose_then (cancelled_orders at) c.end.ensures.orders
