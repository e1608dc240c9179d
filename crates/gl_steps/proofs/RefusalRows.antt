-- For each refusal runs from the empty state in which it is the answer, by the commands that can answer it. The two that only a full graph and a worn
-- out count can meet are in Limits.
use Rattle.gl_steps.proofs.Words.{◌++◌, [], ◌∷◌, AtBlock, ByWatcher, IS, IX, NL, NodeId, refl, S, TxnId, X}
use Rattle.gl_modes.specs.declared.refusal.Refusal.TheVariants as no
use Rattle.gl_steps.specs.declared.command.Answer.TheVariants as answer
use Rattle.gl_steps.specs.declared.command.Command.TheVariants as command
use Rattle.gl_steps.proofs.RowWords.{a, b, begins, computed, db, f1, holds, i1, id, indexed, locks, locks_all, prelude, r1, ref, refuses, Rows, says, waits, z}

-- names a node that never was, and a transaction that has ended
abbrev nowhere : NodeId
nowhere = id 99

abbrev ended : TxnId
ended = z

-- no such node
row_no_such_node : Rows AtBlock 1 (prelude ++
    begins a
    ∷ refuses (command.Inner (ref (nowhere ∷ []))) no.NoSuchNode
    ∷ refuses (command.File (ref (nowhere ∷ []))) no.NoSuchNode
    ∷ refuses (command.Index (ref (db ∷ [])) nowhere (ref [])) no.NoSuchNode
    ∷ refuses (command.Lock a nowhere S) no.NoSuchNode
    ∷ refuses (command.Try a nowhere S) no.NoSuchNode
    ∷ refuses (command.Unlock a nowhere) no.NoSuchNode
    ∷ refuses (command.Escalate a nowhere) no.NoSuchNode
    ∷ refuses (command.Insert a nowhere (ref [])) no.NoSuchNode
    ∷ refuses (command.Delete a nowhere) no.NoSuchNode
    ∷ refuses (command.Rekey a r1 nowhere 5) no.NoSuchNode
    ∷ refuses (command.Move a f1 (ref (nowhere ∷ []))) no.NoSuchNode
    ∷ refuses (command.Group nowhere) no.NoSuchNode
    ∷ refuses (command.Held a nowhere) no.NoSuchNode
    ∷ refuses (command.Effective a nowhere) no.NoSuchNode ∷ [])
row_no_such_node = computed refl

-- no such transaction, with anything else wrong too
row_no_such_txn : Rows AtBlock 1 (prelude ++
    refuses (command.Lock ended nowhere NL) no.NoSuchTxn
    ∷ refuses (command.Try ended nowhere NL) no.NoSuchTxn
    ∷ refuses (command.Unlock ended db) no.NoSuchTxn
    ∷ refuses (command.Escalate ended db) no.NoSuchTxn
    ∷ refuses (command.Cancel ended) no.NoSuchTxn
    ∷ refuses (command.Commit ended) no.NoSuchTxn
    ∷ refuses (command.Abort ended) no.NoSuchTxn
    ∷ refuses (command.Settle ended) no.NoSuchTxn
    ∷ refuses (command.Insert ended f1 (ref [])) no.NoSuchTxn
    ∷ refuses (command.Delete ended r1) no.NoSuchTxn
    ∷ refuses (command.Rekey ended r1 i1 5) no.NoSuchTxn
    ∷ refuses (command.Move ended f1 (ref [])) no.NoSuchTxn
    ∷ refuses (command.Held ended db) no.NoSuchTxn
    ∷ refuses (command.Effective ended db) no.NoSuchTxn ∷ [])
row_no_such_txn = computed refl

-- a transaction that waits can cancel, abort and be settled
row_waiting : Rows AtBlock 2 (prelude ++
    begins a ∷ begins b
    ∷ locks a X db
    ∷ waits b S db
    ∷ refuses (command.Lock b db S) no.TxnWaiting
    ∷ refuses (command.Try b db S) no.TxnWaiting
    ∷ refuses (command.Unlock b db) no.TxnWaiting
    ∷ refuses (command.Escalate b db) no.TxnWaiting
    ∷ refuses (command.Commit b) no.TxnWaiting
    ∷ refuses (command.Insert b f1 (ref (5 ∷ []))) no.TxnWaiting
    ∷ refuses (command.Delete b r1) no.TxnWaiting
    ∷ refuses (command.Rekey b r1 i1 5) no.TxnWaiting
    ∷ refuses (command.Move b f1 (ref (db ∷ []))) no.TxnWaiting
    ∷ says (command.Settle b) answer.Done
    ∷ holds b db NL
    ∷ says (command.Cancel b) answer.Done ∷ [])
row_waiting = computed refl

-- a victim can only abort
row_condemned : Rows AtBlock 2 (prelude ++
    begins a ∷ begins b
    ∷ locks a S db
    ∷ locks b S db
    ∷ waits a X db
    ∷ says (command.Lock b db X) answer.Victim
    ∷ refuses (command.Lock b db S) no.TxnCondemned
    ∷ refuses (command.Try b db S) no.TxnCondemned
    ∷ refuses (command.Unlock b db) no.TxnCondemned
    ∷ refuses (command.Escalate b db) no.TxnCondemned
    ∷ refuses (command.Cancel b) no.TxnCondemned
    ∷ refuses (command.Commit b) no.TxnCondemned
    ∷ refuses (command.Insert b f1 (ref (5 ∷ []))) no.TxnCondemned
    ∷ refuses (command.Delete b r1) no.TxnCondemned
    ∷ refuses (command.Rekey b r1 i1 5) no.TxnCondemned
    ∷ refuses (command.Move b f1 (ref (db ∷ []))) no.TxnCondemned
    ∷ holds b db S ∷ [])
row_condemned = computed refl

-- modes that nobody may request, and modes that a record cannot have
row_bad_mode : Rows AtBlock 1 (prelude ++
    begins a
    ∷ refuses (command.Lock a db NL) no.BadMode
    ∷ refuses (command.Try a db NL) no.BadMode
    ∷ refuses (command.Lock a r1 IS) no.BadMode
    ∷ refuses (command.Try a r1 IX) no.BadMode ∷ [])
row_bad_mode = computed refl

-- the rule of the graph
row_need_parents : Rows AtBlock 1 (prelude ++
    begins a
    ∷ refuses (command.Lock a f1 S) (no.NeedParents db)
    ∷ refuses (command.Try a f1 IX) (no.NeedParents db)
    ∷ locks a IS db
    ∷ locks a S f1
    ∷ refuses (command.Lock a f1 IX) (no.NeedParents db)
    ∷ refuses (command.Insert a f1 (ref (5 ∷ []))) (no.NeedParents f1) ∷ [])
row_need_parents = computed refl

-- what is not held cannot be released or escalated, and what is held below keeps the node
row_not_held : Rows AtBlock 1 (prelude ++
    begins a
    ∷ refuses (command.Unlock a db) no.NotHeld
    ∷ refuses (command.Escalate a f1) no.NotHeld
    ∷ locks_all a IX (db ∷ f1 ∷ [])
    ++ refuses (command.Unlock a db) (no.HeldChild f1) ∷ [])
row_not_held = computed refl

-- an escalation does not wait
row_would_block : Rows AtBlock 2 (prelude ++
    begins a ∷ begins b
    ∷ locks a IX db
    ∷ locks b IX db
    ∷ refuses (command.Try b db S) no.WouldBlock
    ∷ refuses (command.Escalate a db) no.WouldBlock ∷ [])
row_would_block = computed refl

-- parents of the wrong kind, given twice, or none; an index under a file; what is no record, and what is one
row_bad_parents : Rows AtBlock 1 (prelude ++
    begins a
    ∷ refuses (command.Inner (ref (f1 ∷ []))) no.BadParents
    ∷ refuses (command.Inner (ref (db ∷ db ∷ []))) no.BadParents
    ∷ refuses (command.File (ref [])) no.BadParents
    ∷ refuses (command.File (ref (db ∷ db ∷ []))) no.BadParents
    ∷ refuses (command.Index (ref (f1 ∷ [])) f1 (ref [])) no.BadParents
    ∷ refuses (command.Index (ref (db ∷ [])) db (ref [])) no.BadParents
    ∷ refuses (command.Insert a db (ref [])) no.BadParents
    ∷ refuses (command.Delete a f1) no.BadParents
    ∷ refuses (command.Rekey a r1 f1 5) no.BadParents
    ∷ refuses (command.Rekey a f1 i1 5) no.BadParents
    ∷ refuses (command.Escalate a r1) no.BadParents
    ∷ refuses (command.Move a r1 (ref (db ∷ []))) no.BadParents ∷ [])
row_bad_parents = computed refl

-- without X on the record, and on its old and new parents
row_need_exclusive : Rows AtBlock 1 (prelude ++
    begins a
    ∷ refuses (command.Delete a r1) no.NeedExclusive
    ∷ refuses (command.Rekey a r1 i1 5) no.NeedExclusive
    ∷ refuses (command.Move a f1 (ref (db ∷ []))) no.NeedExclusive
    ∷ refuses (command.Move a db (ref [])) no.NeedExclusive
    ∷ refuses (command.Cancel a) no.NotWaiting ∷ [])
row_need_exclusive = computed refl

-- a file that has records gets no further index
row_file_in_use : Rows AtBlock 1 (prelude ++
    refuses (command.Index (ref (db ∷ [])) f1 (ref [])) no.FileInUse ∷ [])
row_file_in_use = computed refl

-- bounds that do not rise from above 0, and keys that are not one for each index
row_bad_keys : Rows AtBlock 1 (indexed ++
    refuses (command.Index (ref (db ∷ [])) f1 (ref (100 ∷ 100 ∷ []))) no.BadKeys
    ∷ refuses (command.Index (ref (db ∷ [])) f1 (ref (0 ∷ []))) no.BadKeys
    ∷ begins z
    ∷ refuses (command.Insert z f1 (ref [])) no.BadKeys
    ∷ refuses (command.Insert z f1 (ref (1 ∷ 2 ∷ []))) no.BadKeys ∷ [])
row_bad_keys = computed refl

-- more live at once than the state has room for
row_too_many_txns : Rows ByWatcher 1 (begins z ∷ refuses command.Begin no.TooManyTxns ∷ [])
row_too_many_txns = computed refl
