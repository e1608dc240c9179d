use Rattle.gl_rows.specs.Releasing.{no_node}
use Rattle.gl_catalog.specs.Paths.{lock_of}
use Rattle.std.proofs.Common.{ap, subst, sym, ◌∙◌}
use Rattle.std.specs.Prelude.{Err, Result}
use Rattle.gl_catalog.specs.Manager.{ManagerView, state_of}
use Rattle.gl_rows.specs.declared.answer.RowLocked.{RowLocked}
use Rattle.gl_rows.specs.declared.answer.RowRefusal.{RowRefusal}
use Rattle.gl_rows.specs.Locking.{Wish}
use Rattle.gl_waiting.specs.RowLocks.{LocksRowAs}
use Rattle.gl_waiting.specs.RowTries.{HoldsTried, KeepsQueues}
use Rattle.gl_waiting.specs.declared.tries.RowTried.{RowTried}
use Rattle.gl_waiting.proofs.RowHolding.{held_holds, lock_holds, refused_holds, unreleased_same}
use Rattle.gl_waiting.proofs.RowTrying.{back_counted, back_ended, back_queues, back_waits, held_at_once, held_enters_row, no_wait_locked, refused_same}
use Rattle.gl_waiting.proofs.Runs.{own_then}
use Rattle.gl_waiting.proofs.delivery.Delivery.note_row.Goals as goal

pub row_tried_as-requires : goal.row_tried_as-requires
row_tried_as-requires c =
    let wish : Wish = record { txn = c.args.txn; row = c.args.row; keys = c.args.keys; mode = c.args.mode } in
    held_at_once c.args.self.now c.lock_row-locked.new.self wish c.lock_row-locked.new.told.items c.law.ensures.lawful c.args.node c.requires.named
    c.requires.is_held c.lock_row-locked.result.0 c.lock_row-locked.ensures.locks

pub returns-in-Ok-clause-waits : goal.returns-in-Ok-clause-waits
returns-in-Ok-clause-waits c =
    let wish : Wish = record { txn = c.args.txn; row = c.args.row; keys = c.args.keys; mode = c.args.mode } in
    no_wait_locked c.args.self.now c.lock_row-locked.new.self wish c.lock_row-locked.result.0 c.lock_row-locked.new.told.items
    (held_at_once c.args.self.now c.lock_row-locked.new.self wish c.lock_row-locked.new.told.items c.law.ensures.lawful c.args.node c.requires.named
    c.requires.is_held c.lock_row-locked.result.0 c.lock_row-locked.ensures.locks) c.lock_row-locked.ensures.locks

-- the row is released

module _ (c : goal.After-row_refused) where
  abbrev wish : Wish
  wish = record { txn = c.args.txn; row = c.args.row; keys = c.args.keys; mode = c.args.mode }

  locks : LocksRowAs c.args.self.now wish (Err c.in-Err.refusal) c.lock_row-locked.new.told.items c.lock_row-locked.new.self
  locks = subst (λ (r : Result RowLocked RowRefusal). LocksRowAs c.args.self.now wish r c.lock_row-locked.new.told.items c.lock_row-locked.new.self)
      c.in-Err.is c.lock_row-locked.ensures.locks

pub returns-then-is_released-clause-waits : goal.returns-then-is_released-clause-waits
returns-then-is_released-clause-waits c =
    back_waits c.args.self.now c.lock_row-locked.new.self c.serve_row-answer.new.self (wish c) c.in-Err.refusal c.lock_row-locked.new.told.items (locks c)
    c.serve_row-answer.result.0 c.serve_row-answer.new.told.items c.serve_row-answer.result.1 c.serve_row-answer.ensures.applies
    c.serve_row-answer.ensures.own c.serve_row-answer.ensures.carries

pub returns-then-is_released-clause-queues : goal.returns-then-is_released-clause-queues
returns-then-is_released-clause-queues c =
    subst (λ (x : RowTried). KeepsQueues x (state_of c.args.self.now.manager) (state_of c.serve_row-answer.new.self.manager)) (sym c.row_refused.ensures)
    (back_queues c.args.self.now c.lock_row-locked.new.self c.serve_row-answer.new.self (wish c) c.in-Err.refusal c.lock_row-locked.new.told.items (locks c)
    c.serve_row-answer.result.0 c.serve_row-answer.new.told.items c.serve_row-answer.result.1 c.serve_row-answer.ensures.applies
    c.serve_row-answer.ensures.own c.serve_row-answer.ensures.carries c.args.node c.requires.named (sym c.if-is_released.ensures)
    (c.requires.quiet c.if-held.false))

pub returns-then-is_released-clause-run : goal.returns-then-is_released-clause-run
returns-then-is_released-clause-run c =
    own_then (lock_of c.args.txn (no_node, c.args.mode)) (state_of c.args.self.now.manager) (state_of c.lock_row-locked.new.self.manager)
    (state_of c.serve_row-answer.new.self.manager) c.lock_row-locked.ensures.run c.serve_row-answer.ensures.run

pub returns-then-is_released-clause-ended : goal.returns-then-is_released-clause-ended
returns-then-is_released-clause-ended c =
    back_ended c.args.self.now c.lock_row-locked.new.self c.serve_row-answer.new.self (wish c) c.in-Err.refusal c.lock_row-locked.new.told.items (locks c)
    c.serve_row-answer.result.0 c.serve_row-answer.new.told.items c.serve_row-answer.result.1 c.serve_row-answer.ensures.applies
    c.serve_row-answer.ensures.own c.serve_row-answer.ensures.carries

pub returns-then-is_released-clause-counted : goal.returns-then-is_released-clause-counted
returns-then-is_released-clause-counted c =
    back_counted c.args.self.now c.lock_row-locked.new.self c.serve_row-answer.new.self (wish c) c.in-Err.refusal c.lock_row-locked.new.told.items (locks c)
    c.serve_row-answer.result.0 c.serve_row-answer.new.told.items c.serve_row-answer.result.1 c.serve_row-answer.ensures.applies
    c.serve_row-answer.ensures.own c.serve_row-answer.ensures.carries

-- or that is refused too

module _ (c : goal.Else-is_released) where
  abbrev wish_too : Wish
  wish_too = record { txn = c.args.txn; row = c.args.row; keys = c.args.keys; mode = c.args.mode }

  locks_too : LocksRowAs c.args.self.now wish_too (Err c.in-Err.refusal) c.lock_row-locked.new.told.items c.lock_row-locked.new.self
  locks_too = subst (λ (r : Result RowLocked RowRefusal). LocksRowAs c.args.self.now wish_too r c.lock_row-locked.new.told.items c.lock_row-locked.new.self)
      c.in-Err.is c.lock_row-locked.ensures.locks

pub returns-clause-waits : goal.returns-clause-waits
returns-clause-waits c =
    back_waits c.args.self.now c.lock_row-locked.new.self c.serve_row-answer.new.self (wish_too c) c.in-Err.refusal c.lock_row-locked.new.told.items
    (locks_too c) c.serve_row-answer.result.0 c.serve_row-answer.new.told.items c.serve_row-answer.result.1 c.serve_row-answer.ensures.applies
    c.serve_row-answer.ensures.own c.serve_row-answer.ensures.carries

pub returns-clause-run : goal.returns-clause-run
returns-clause-run c =
    own_then (lock_of c.args.txn (no_node, c.args.mode)) (state_of c.args.self.now.manager) (state_of c.lock_row-locked.new.self.manager)
    (state_of c.serve_row-answer.new.self.manager) c.lock_row-locked.ensures.run c.serve_row-answer.ensures.run

pub returns-clause-ended : goal.returns-clause-ended
returns-clause-ended c =
    back_ended c.args.self.now c.lock_row-locked.new.self c.serve_row-answer.new.self (wish_too c) c.in-Err.refusal c.lock_row-locked.new.told.items
    (locks_too c) c.serve_row-answer.result.0 c.serve_row-answer.new.told.items c.serve_row-answer.result.1 c.serve_row-answer.ensures.applies
    c.serve_row-answer.ensures.own c.serve_row-answer.ensures.carries

pub returns-clause-counted : goal.returns-clause-counted
returns-clause-counted c =
    back_counted c.args.self.now c.lock_row-locked.new.self c.serve_row-answer.new.self (wish_too c) c.in-Err.refusal c.lock_row-locked.new.told.items
    (locks_too c) c.serve_row-answer.result.0 c.serve_row-answer.new.told.items c.serve_row-answer.result.1 c.serve_row-answer.ensures.applies
    c.serve_row-answer.ensures.own c.serve_row-answer.ensures.carries

-- what is held

pub returns-in-Ok-clause-holds : goal.returns-in-Ok-clause-holds
returns-in-Ok-clause-holds c =
    let wish : Wish = record { txn = c.args.txn; row = c.args.row; keys = c.args.keys; mode = c.args.mode } in
    lock_holds c.args.self.now c.lock_row-locked.new.self wish c.lock_row-locked.new.told.items
    (held_enters_row c.args.self.now wish c.law.ensures.lawful c.args.node c.requires.named c.requires.is_held) c.lock_row-locked.result.0
    c.row_tried_as.result c.row_tried_as.ensures c.lock_row-locked.ensures.locks

pub returns-then-held-clause-holds : goal.returns-then-held-clause-holds
returns-then-held-clause-holds c =
    let wish : Wish = record { txn = c.args.txn; row = c.args.row; keys = c.args.keys; mode = c.args.mode } in
    let d = c.args.self.now in
    let mid = c.lock_row-locked.new.self in
    let told = c.lock_row-locked.new.told.items in
    let refused = subst (λ (r : Result RowLocked RowRefusal). LocksRowAs d wish r told mid) c.in-Err.is c.lock_row-locked.ensures.locks in
    held_holds (state_of d.manager) (state_of mid.manager) c.args.txn c.args.node c.args.mode c.requires.is_held
    (ap (λ (m : ManagerView). (state_of m).held c.args.txn.slot c.args.node) (refused_same d mid wish c.in-Err.refusal told refused).1)

pub returns-then-is_released-clause-holds : goal.returns-then-is_released-clause-holds
returns-then-is_released-clause-holds c =
    subst (λ (x : RowTried). HoldsTried c.args.txn c.args.mode x (state_of c.serve_row-answer.new.self.manager)) (sym c.row_refused.ensures)
    (refused_holds c.args.txn c.args.mode c.in-Err.refusal (state_of c.serve_row-answer.new.self.manager))

pub returns-clause-holds : goal.returns-clause-holds
returns-clause-holds c =
    let d = c.args.self.now in
    let mid = c.lock_row-locked.new.self in
    let new = c.serve_row-answer.new.self in
    let same = refused_same d mid (wish_too c) c.in-Err.refusal c.lock_row-locked.new.told.items (locks_too c) in
    held_holds (state_of d.manager) (state_of new.manager) c.args.txn c.args.node c.args.mode c.requires.is_held
    (ap (λ (m : ManagerView). (state_of m).held c.args.txn.slot c.args.node)
    (unreleased_same mid new c.args.txn c.args.row c.serve_row-answer.result.0 c.serve_row-answer.new.told.items c.serve_row-answer.ensures.applies
    (sym c.if-is_released.ensures)
    ∙ same.1))
