-- Worked rows of one or two roots: conversions, queues, deadlocks, limits and cancels.
use Rattle.gl_steps.proofs.Words.{◌+◌, ◌++◌, [], ◌∷◌, AtBlock, ByWatcher, IX, map, NL, NodeId, range_with_len, refl, S, TxnId, X}
use Rattle.gl_modes.specs.declared.mode.Mode.TheVariants.{SIX}
use Rattle.gl_modes.specs.declared.refusal.Refusal.TheVariants as no
use Rattle.gl_model.specs.declared.answers.Notice.TheVariants as notice
use Rattle.gl_steps.specs.declared.command.Answer.TheVariants as answer
use Rattle.gl_steps.specs.declared.command.Command.TheVariants as command
use Rattle.gl_steps.proofs.RowWords.{begins, computed, done, group, holds, id, locks, refuses, roots, Rows, says, tells, txn, waits}

abbrev db : NodeId
db = id 1

abbrev a : TxnId
a = txn 0 1

abbrev b : TxnId
b = txn 1 2

abbrev c : TxnId
c = txn 2 3

-- a transaction's own grant does not block it
row_own_grant : Rows AtBlock 2 (
    roots db ∷ begins a
    ∷ says (command.Try a db IX) (answer.Granted IX)
    ∷ says (command.Try a db S) (answer.Granted SIX)
    ∷ group db SIX
    ∷ done (command.Commit a)
    ∷ group db NL ∷ [])
row_own_grant = computed refl

-- a release grants from the queue, and the group mode is lowered
row_grant_on_commit : Rows AtBlock 2 (
    roots db ∷ begins a ∷ begins b
    ∷ locks a S db
    ∷ waits b IX db
    ∷ tells (command.Commit a) b (notice.Granted db IX)
    ∷ group db IX ∷ [])
row_grant_on_commit = computed refl

-- a newcomer waits after a queue though it is compatible with all grants
row_newcomer_behind_queue : Rows AtBlock 3 (
    roots db ∷ begins a ∷ begins b ∷ begins c
    ∷ locks a S db
    ∷ waits b X db
    ∷ waits c S db
    ∷ tells (command.Commit a) b (notice.Granted db X)
    ∷ tells (command.Commit b) c (notice.Granted db S) ∷ [])
row_newcomer_behind_queue = computed refl

-- a conversion waits ahead of newcomers
row_conversion_ahead : Rows AtBlock 3 (
    roots db ∷ begins a ∷ begins b ∷ begins c
    ∷ locks a S db
    ∷ locks b S db
    ∷ waits c X db
    ∷ waits a X db
    ∷ tells (command.Commit b) a (notice.Granted db X)
    ∷ holds c db NL ∷ [])
row_conversion_ahead = computed refl

-- two conversions that wait for each other: the youngest is the victim, here the requester
row_requester_is_victim : Rows AtBlock 2 (
    roots db ∷ begins a ∷ begins b
    ∷ locks a S db
    ∷ locks b S db
    ∷ waits a X db
    ∷ says (command.Lock b db X) answer.Victim
    ∷ refuses (command.Commit b) no.TxnCondemned
    ∷ tells (command.Abort b) a (notice.Granted db X) ∷ [])
row_requester_is_victim = computed refl

-- and here the one that waited first
row_other_is_victim : Rows AtBlock 2 (
    roots db ∷ begins a ∷ begins b
    ∷ locks a S db
    ∷ locks b S db
    ∷ waits b X db
    ∷ (command.Lock a db X, answer.Waiting, (b, notice.Victim) ∷ [])
    ∷ tells (command.Abort b) a (notice.Granted db X) ∷ [])
row_other_is_victim = computed refl

-- a victim that begins again keeps its turn: the next victim began after its first begin, though before its second
row_victim_keeps_its_turn : Rows AtBlock 3 (
    roots db ∷ begins a ∷ begins b ∷ begins c
    ∷ locks a S db
    ∷ locks b S db
    ∷ waits a X db
    ∷ says (command.Lock b db X) answer.Victim
    ∷ tells (command.Abort b) a (notice.Granted db X)
    ∷ done (command.Commit a)
    ∷ says (command.BeginAgain b.age) (answer.Begun (txn 0 4))
    ∷ locks c S db
    ∷ locks (txn 0 4) S db
    ∷ waits c X db
    ∷ (command.Lock (txn 0 4) db X, answer.Waiting, (c, notice.Victim) ∷ [])
    ∷ tells (command.Abort c) (txn 0 4) (notice.Granted db X) ∷ [])
row_victim_keeps_its_turn = computed refl

-- a cycle through a waiter that is ahead
row_cycle_through_waiter_ahead : Rows AtBlock 3 (
    roots (id 1) ∷ roots (id 2) ∷ begins a ∷ begins b ∷ begins c
    ∷ locks a S (id 1)
    ∷ locks c X (id 2)
    ∷ waits b X (id 1)
    ∷ waits c S (id 1)
    ∷ (command.Lock a (id 2) S, answer.Waiting, (c, notice.Victim) ∷ [])
    ∷ tells (command.Abort c) a (notice.Granted (id 2) S) ∷ [])
row_cycle_through_waiter_ahead = computed refl

-- a begin gets the lowest free slot, and the limit is what the state says
row_lowest_slot : Rows AtBlock 64 (
    map (λ k. begins (txn k (k + 1))) (range_with_len 0 64)
    ++ refuses command.Begin no.TooManyTxns
    ∷ done (command.Commit (txn 5 6))
    ∷ begins (txn 5 65) ∷ [])
row_lowest_slot = computed refl

-- one that joins has the slot that it names, and an age of at least its `since`; the next begin has the next age
row_joins : Rows AtBlock 4 (
    begins a
    ∷ says (command.Join 2 9) (answer.Begun (txn 2 9))
    ∷ begins (txn 1 10)
    ∷ says (command.Join 3 4) (answer.Begun (txn 3 11))
    ∷ refuses (command.Join 2 9) no.TooManyTxns
    ∷ refuses (command.Join 4 9) no.TooManyTxns
    ∷ done (command.Commit (txn 3 11)) ∷ [])
row_joins = computed refl

-- and victims are chosen by that number: here the one that joined last began first
row_victim_by_what_joined : Rows AtBlock 3 (
    roots db
    ∷ says (command.Join 0 5) (answer.Begun (txn 0 5))
    ∷ says (command.Join 1 2) (answer.Begun (txn 1 6))
    ∷ locks (txn 0 5) S db
    ∷ locks (txn 1 6) S db
    ∷ waits (txn 0 5) X db
    ∷ (command.Lock (txn 1 6) db X, answer.Waiting, (txn 0 5, notice.Victim) ∷ [])
    ∷ tells (command.Abort (txn 0 5)) (txn 1 6) (notice.Granted db X) ∷ [])
row_victim_by_what_joined = computed refl

-- a try does not wait, and a wait can be cancelled
row_try_and_cancel : Rows AtBlock 2 (
    roots db ∷ begins a ∷ begins b
    ∷ locks a S db
    ∷ refuses (command.Try b db IX) no.WouldBlock
    ∷ holds b db NL
    ∷ refuses (command.Cancel b) no.NotWaiting
    ∷ waits b IX db
    ∷ refuses (command.Commit b) no.TxnWaiting
    ∷ done (command.Cancel b)
    ∷ done (command.Commit b) ∷ [])
row_try_and_cancel = computed refl

-- with detection by a watcher a deadlock stays until it is settled
row_by_watcher : Rows ByWatcher 2 (
    roots db ∷ begins a ∷ begins b
    ∷ locks a S db
    ∷ locks b S db
    ∷ waits a X db
    ∷ waits b X db
    ∷ tells (command.Settle a) b notice.Victim
    ∷ done (command.Settle a)
    ∷ tells (command.Abort b) a (notice.Granted db X) ∷ [])
row_by_watcher = computed refl

-- a transaction renews with its intention, as another; not while somebody waits for the node, nor with more than an intention
row_renewal : Rows AtBlock 2 (
    roots db ∷ begins a ∷ begins b
    ∷ locks a IX db
    ∷ says (command.Renew a 9) (answer.Begun (txn 0 3))
    ∷ refuses (command.Commit a) no.NoSuchTxn
    ∷ holds (txn 0 3) db IX
    ∷ waits b X db
    ∷ refuses (command.Renew (txn 0 3) 1) no.NeedRelease
    ∷ refuses (command.Renew b 1) no.TxnWaiting
    ∷ done (command.Cancel b)
    ∷ says (command.Renew (txn 0 3) 1) (answer.Begun (txn 0 4))
    ∷ locks (txn 0 4) SIX db
    ∷ refuses (command.Renew (txn 0 4) 1) no.NeedRelease
    ∷ done (command.Commit (txn 0 4)) ∷ [])
row_renewal = computed refl
