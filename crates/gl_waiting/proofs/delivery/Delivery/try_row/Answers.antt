use Rattle.gl_rows.specs.Releasing.{no_node}
use Rattle.std.proofs.Common.{◌≡◌, [], ap, false, subst, sym, ◌∙◌, Bool, rules}
use Rattle.std.specs.Prelude.{Err, Ok, Option}
use Rattle.gl_modes.specs.declared.node.NodeId.{NodeId}
use Rattle.gl_catalog.specs.Manager.{ManagerView, state_of}
use Rattle.gl_catalog.specs.Paths.{Ask, lock_of}
use Rattle.gl_model.specs.declared.txn.TxnId.{TxnId}
use Rattle.gl_rows.specs.Locking.{Wish}
use Rattle.gl_waiting.specs.Delivering.{DeliveryView}
use Rattle.gl_waiting.specs.RowTries.{HoldsTried, TriesRowBy, was_held}
use Rattle.gl_waiting.specs.declared.tries.RowTried.{RowTried}
use Rattle.gl_waiting.specs.Tries.{try_of}
use Rattle.gl_waiting.proofs.RowHolding.{holds_least, lock_holds, refused_at_holds}
use Rattle.gl_waiting.proofs.RowTrying.{free_at_once, free_enters, no_wait_locked, no_wait_then, no_wait_tried, then_counted, then_ended, then_low, then_queues}
use Rattle.gl_waiting.proofs.RowTrying.{tried_blocks, tried_holds, was_unheld}
use Rattle.gl_waiting.proofs.Runs.{own_one, own_same, own_then}
use Rattle.gl_waiting.proofs.TriedPaths.{took_is, took_least}
use Rattle.gl_waiting.proofs.delivery.Delivery.try_row.Goals as goal

-- in the words of a delivery
held_as : (b : Bool) (m m' : ManagerView) (t : TxnId) (n : NodeId) → b ≡ was_held (state_of m) t n → m ≡ m' → b ≡ false → was_held (state_of m') t n ≡ false
held_as b m m' t n is same so = sym (ap (λ (x : ManagerView). was_held (state_of x) t n) same) ∙ sym is ∙ so

-- a row whose node nobody holds or waits for

pub row_tried_as-requires : goal.row_tried_as-requires
row_tried_as-requires c =
    let wish : Wish = record { txn = c.args.txn; row = c.args.row; keys = c.args.keys; mode = c.args.mode } in
    free_at_once c.args.self.now c.lock_row-locked.new.self wish c.lock_row-locked.new.told.items c.law.ensures.lawful (sym c.in_default.ensures)
    c.lock_row-locked.result.0 c.lock_row-locked.ensures.locks

pub returns-in_default-clause-waits : goal.returns-in_default-clause-waits
returns-in_default-clause-waits c =
    let wish : Wish = record { txn = c.args.txn; row = c.args.row; keys = c.args.keys; mode = c.args.mode } in
    no_wait_locked c.args.self.now c.lock_row-locked.new.self wish c.lock_row-locked.result.0 c.lock_row-locked.new.told.items
    (free_at_once c.args.self.now c.lock_row-locked.new.self wish c.lock_row-locked.new.told.items c.law.ensures.lawful (sym c.in_default.ensures)
    c.lock_row-locked.result.0 c.lock_row-locked.ensures.locks) c.lock_row-locked.ensures.locks

-- any other row, whose node was granted to a try

pub note_row-requires-clause-is_held : goal.note_row-requires-clause-is_held
note_row-requires-clause-is_held c =
    tried_holds (state_of c.args.self.now.manager) (state_of c.try_at.new.self.manager) c.args.txn c.in-Some.node c.args.mode c.in-Ok.mode c.in-Ok.ensures.step

pub note_row-requires-clause-quiet : goal.note_row-requires-clause-quiet
note_row-requires-clause-quiet c = λ out.
    let s = state_of c.args.self.now.manager in
    let mid = state_of c.try_at.new.self.manager in
    let unheld = was_unheld s mid c.args.txn c.in-Some.node c.args.mode c.in-Ok.mode c.in-Ok.ensures.step
    (held_as c.was_held-held.result c.manager.result.now c.args.self.now.manager c.args.txn c.in-Some.node c.was_held-held.ensures c.manager.ensures out) in
    tried_blocks s mid c.args.txn c.in-Some.node c.args.mode c.in-Ok.mode c.law.ensures.lawful unheld c.in-Ok.ensures.step

pub returns-in-Ok-clause-waits : goal.returns-in-Ok-clause-waits
returns-in-Ok-clause-waits c =
    let s = state_of c.args.self.now.manager in
    let mid = state_of c.try_at.new.self.manager in
    no_wait_then s mid (state_of c.note_row.new.self.manager)
    (no_wait_tried s mid c.args.txn (c.in-Some.node, c.args.mode) (Ok c.in-Ok.mode) c.in-Ok.ensures.step) c.note_row.ensures.waits

pub returns-in-Ok-clause-queues : goal.returns-in-Ok-clause-queues
returns-in-Ok-clause-queues c =
    then_queues (state_of c.args.self.now.manager) (state_of c.try_at.new.self.manager) (state_of c.note_row.new.self.manager) c.args.txn c.in-Some.node
    c.args.mode c.in-Ok.mode c.law.ensures.lawful c.in-Ok.ensures.step c.note_row.result.0 c.note_row.ensures.queues

pub returns-in-Ok-clause-run : goal.returns-in-Ok-clause-run
returns-in-Ok-clause-run c =
    let s = state_of c.args.self.now.manager in
    let mid = state_of c.try_at.new.self.manager in
    let own = lock_of c.args.txn (no_node, c.args.mode) in
    own_then own s mid (state_of c.note_row.new.self.manager)
    (own_one own (try_of c.args.txn (c.in-Some.node, c.args.mode)) s mid _ _ (λ u apart. apart) c.in-Ok.ensures.step) c.note_row.ensures.run

pub returns-in-Ok-clause-ended : goal.returns-in-Ok-clause-ended
returns-in-Ok-clause-ended c =
    then_ended (state_of c.args.self.now.manager) (state_of c.try_at.new.self.manager) (state_of c.note_row.new.self.manager) c.args.txn c.in-Some.node
    c.args.mode c.in-Ok.mode c.law.ensures.lawful c.in-Ok.ensures.step c.note_row.result.1 c.note_row.ensures.ended

pub returns-in-Ok-clause-counted : goal.returns-in-Ok-clause-counted
returns-in-Ok-clause-counted c =
    then_counted (state_of c.args.self.now.manager) (state_of c.try_at.new.self.manager) (state_of c.note_row.new.self.manager) c.args.txn c.in-Some.node
    c.args.mode c.in-Ok.mode c.law.ensures.lawful c.in-Ok.ensures.step c.note_row.result.1 c.note_row.ensures.counted

pub returns-in-Ok-clause-low : goal.returns-in-Ok-clause-low
returns-in-Ok-clause-low c =
    then_low (state_of c.args.self.now.manager) (state_of c.try_at.new.self.manager) (state_of c.note_row.new.self.manager) c.args.txn c.in-Some.node
    c.args.mode c.in-Ok.mode c.law.ensures.lawful c.in-Ok.ensures.step c.note_row.ensures.low

-- or refused to it

pub returns-in-Err-clause-tries : goal.returns-in-Err-clause-tries
returns-in-Err-clause-tries c =
    let wish : Wish = record { txn = c.args.txn; row = c.args.row; keys = c.args.keys; mode = c.args.mode } in
    let d = c.args.self.now in
    let tried = c.in-Err.ensures in
    subst (λ (o : Option NodeId). TriesRowBy o wish d c.refused_at.result c.try_at.new.told.items c.empty.result c.try_at.new.self) c.in-Some.ensures
    (record {
      tried = Err c.in-Err.refusal;
      mid = c.try_at.new.self.manager;
      step = tried.step;
      unchanged = ap (λ (x : DeliveryView). x.manager) tried.refused;
      follows = (c.refused_at.ensures, tried.untold, c.empty.ensures.none, tried.manager);
    })

-- what is held

pub returns-in_default-clause-holds : goal.returns-in_default-clause-holds
returns-in_default-clause-holds c =
    let wish : Wish = record { txn = c.args.txn; row = c.args.row; keys = c.args.keys; mode = c.args.mode } in
    lock_holds c.args.self.now c.lock_row-locked.new.self wish c.lock_row-locked.new.told.items
    (free_enters c.args.self.now wish c.law.ensures.lawful (sym c.in_default.ensures)) c.lock_row-locked.result.0 c.row_tried_as.result
    c.row_tried_as.ensures c.lock_row-locked.ensures.locks

pub returns-in-Ok-clause-holds : goal.returns-in-Ok-clause-holds
returns-in-Ok-clause-holds c =
    let s = state_of c.args.self.now.manager in
    let mid = state_of c.try_at.new.self.manager in
    let ask : Ask = (c.in-Some.node, c.args.mode) in
    holds_least c.args.txn c.args.mode c.in-Ok.mode c.note_row.result.0 (state_of c.note_row.new.self.manager)
    (took_least s c.args.txn ask c.in-Ok.mode mid (took_is s c.args.txn ask c.in-Ok.mode [] mid c.in-Ok.ensures.step)) c.note_row.ensures.holds

pub returns-in-Err-clause-holds : goal.returns-in-Err-clause-holds
returns-in-Err-clause-holds c =
    subst (λ (x : RowTried). HoldsTried c.args.txn c.args.mode x (state_of c.try_at.new.self.manager)) (sym c.refused_at.ensures)
    (refused_at_holds c.args.txn c.args.mode c.in-Some.node c.in-Err.refusal (state_of c.try_at.new.self.manager))

pub returns-in-Err-clause-run : goal.returns-in-Err-clause-run
returns-in-Err-clause-run c =
    own_same (lock_of c.args.txn (no_node, c.args.mode)) (state_of c.args.self.now.manager) (state_of c.try_at.new.self.manager) (search rules)
