-- Worked rows with records: the rule of the graph, effective modes, keys that change, escalation, records that are added and removed.
use Rattle.gl_steps.proofs.Words.{◌++◌, [], ◌∷◌, AtBlock, IS, IX, NL, refl, S, X}
use Rattle.gl_modes.specs.declared.refusal.Refusal.TheVariants as no
use Rattle.gl_model.specs.declared.answers.Effect.TheVariants as effect
use Rattle.gl_model.specs.declared.answers.Notice.TheVariants as notice
use Rattle.gl_steps.specs.declared.command.Answer.TheVariants as answer
use Rattle.gl_steps.specs.declared.command.Command.TheVariants as command
use Rattle.gl_steps.proofs.RowWords.{a, b, begins, c, computed, db, done, f1, holds, i1, i1_0, i1_1, locks, locks_all, prelude, r1, r2, ref, refuses, Rows}
use Rattle.gl_steps.proofs.RowWords.{says, tells, waits}

-- X needs IX on every parent, S on one; a node is left after its children
row_graph_rule : Rows AtBlock 1 (prelude ++
    begins a ∷ locks_all a IX (db ∷ f1 ∷ []) ++
    refuses (command.Lock a r1 X) (no.NeedParents i1_0)
    ∷ locks a S r1
    ∷ refuses (command.Lock a r1 IX) no.BadMode
    ∷ refuses (command.Unlock a f1) (no.HeldChild r1)
    ∷ done (command.Unlock a r1)
    ∷ done (command.Unlock a f1)
    ∷ refuses (command.Unlock a f1) no.NotHeld ∷ [])
row_graph_rule = computed refl

-- X on one parent is not X on the record
row_effective : Rows AtBlock 2 (prelude ++
    begins a ∷ begins b
    ∷ locks a IX db
    ∷ locks a X f1
    ∷ locks_all b IS (db ∷ i1 ∷ i1_0 ∷ [])
    ++ locks b S r1
    ∷ says (command.Effective a r1) (answer.Effect effect.S)
    ∷ says (command.Effective a f1) (answer.Effect effect.X) ∷ [])
row_effective = computed refl

-- a rekey needs IX on the new interval
row_rekey_needs_new_interval : Rows AtBlock 2 (prelude ++
    begins a ∷ begins b ∷ locks_all a IX (db ∷ f1 ∷ i1 ∷ i1_0 ∷ [])
    ++ locks a X r1
    ∷ locks_all b IS (db ∷ i1 ∷ [])
    ++ locks b S i1_1
    ∷ refuses (command.Rekey a r1 i1 150) (no.NeedParents i1_1)
    ∷ waits a IX i1_1
    ∷ tells (command.Commit b) a (notice.Granted i1_1 IX)
    ∷ done (command.Rekey a r1 i1 150) ∷ [])
row_rekey_needs_new_interval = computed refl

-- of the waiters on a record that moves, those that fail the rule of the graph are removed
row_rekey_moves_waiters : Rows AtBlock 3 (prelude ++
    begins a ∷ begins b ∷ begins c ∷ locks_all a IX (db ∷ f1 ∷ i1 ∷ i1_0 ∷ [])
    ++ locks a X r1
    ∷ locks a IX i1_1
    ∷ locks_all b IX (db ∷ f1 ∷ i1 ∷ i1_0 ∷ [])
    ++ waits b X r1
    ∷ locks_all c IS (db ∷ f1 ∷ [])
    ++ waits c S r1
    ∷ tells (command.Rekey a r1 i1 150) b notice.Moved
    ∷ holds b r1 NL
    ∷ done (command.Unlock a i1_0)
    ∷ refuses (command.Unlock a i1_1) (no.HeldChild r1)
    ∷ tells (command.Commit a) c (notice.Granted r1 S) ∷ [])
row_rekey_moves_waiters = computed refl

-- X on all old and all new parents is enough in place of X on the record
row_rekey_under_parents : Rows AtBlock 1 (prelude ++
    begins a
    ∷ locks a IX db
    ∷ locks a X f1
    ∷ locks a IX i1
    ∷ locks a X i1_0
    ∷ done (command.Rekey a r1 i1 60)
    ∷ refuses (command.Rekey a r1 i1 150) no.NeedExclusive
    ∷ locks a X i1_1
    ∷ done (command.Rekey a r1 i1 150)
    ∷ says (command.Effective a r1) (answer.Effect effect.X) ∷ [])
row_rekey_under_parents = computed refl

-- an escalation keeps an X that not all parents imply
row_escalate : Rows AtBlock 1 (prelude ++
    begins a ∷ locks_all a IX (db ∷ f1 ∷ i1 ∷ [])
    ++ locks a X i1_0
    ∷ locks a IX i1_1
    ∷ locks a X r1
    ∷ locks a X r2
    ∷ says (command.Escalate a f1) (answer.Escalated (record { mode = X; released = 1; kept = 1 }))
    ∷ holds a r1 NL
    ∷ says (command.Effective a r1) (answer.Effect effect.X)
    ∷ holds a r2 X ∷ [])
row_escalate = computed refl

-- a waiter on a record that is deleted is told, and keeps its other locks
row_delete_with_waiter : Rows AtBlock 2 (prelude ++
    begins a ∷ begins b ∷ locks_all a IX (db ∷ f1 ∷ i1 ∷ i1_0 ∷ [])
    ++ locks a X r1
    ∷ locks_all b IS (db ∷ f1 ∷ [])
    ++ waits b S r1
    ∷ tells (command.Delete a r1) b notice.Gone
    ∷ refuses (command.Held b r1) no.NoSuchNode
    ∷ holds b f1 IS ∷ [])
row_delete_with_waiter = computed refl

-- the interval that has a key, at its edges
row_insert : Rows AtBlock 1 (prelude ++
    begins a ∷ locks_all a IX (db ∷ f1 ∷ [])
    ++ refuses (command.Insert a f1 (ref (0 ∷ []))) (no.NeedParents i1_0)
    ∷ refuses (command.Insert a f1 (ref (99 ∷ []))) (no.NeedParents i1_0)
    ∷ refuses (command.Insert a f1 (ref (100 ∷ []))) (no.NeedParents i1_1)
    ∷ refuses (command.Insert a f1 (ref (18446744073709551615 ∷ []))) (no.NeedParents i1_1)
    ∷ refuses (command.Insert a f1 (ref [])) no.BadKeys ∷ [])
row_insert = computed refl

-- a key is used again, and the old name names nothing
row_key_again : Rows AtBlock 1 (prelude ++
    begins a ∷ locks_all a IX (db ∷ f1 ∷ i1 ∷ i1_1 ∷ [])
    ++ locks a X r2
    ∷ done (command.Delete a r2)
    ∷ says (command.Insert a f1 (ref (300 ∷ []))) (answer.Node (record { key = 6; birth = 8 }))
    ∷ refuses (command.Held a r2) no.NoSuchNode
    ∷ holds a (record { key = 6; birth = 8 }) X ∷ [])
row_key_again = computed refl
