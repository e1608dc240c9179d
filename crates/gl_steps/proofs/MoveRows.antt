-- Worked rows of moves: inner nodes, files and indexes get other parents.
use Rattle.gl_steps.proofs.Words.{◌++◌, [], ◌∷◌, AtBlock, IS, IX, List, NL, NodeId, refl, S, TxnId, X}
use Rattle.gl_modes.specs.declared.refusal.Refusal.TheVariants as no
use Rattle.gl_model.specs.declared.answers.Effect.TheVariants as effect
use Rattle.gl_model.specs.declared.answers.Notice.TheVariants as notice
use Rattle.gl_steps.specs.declared.command.Answer.TheVariants as answer
use Rattle.gl_steps.specs.declared.command.Command.TheVariants as command
use Rattle.gl_steps.proofs.RowWords.{begins, computed, done, file, holds, id, inner, Line, locks, locks_all, prelude, ref, refuses, roots, Rows, says, tells}
use Rattle.gl_steps.proofs.RowWords.{txn, waits}
use Rattle.gl_steps.proofs.RowWords as words

abbrev db : NodeId
db = id 1

abbrev x : NodeId
x = id 2

abbrev y : NodeId
y = id 3

abbrev f1 : NodeId
f1 = id 4

abbrev a : TxnId
a = txn 0 1

abbrev b : TxnId
b = txn 1 2

abbrev c : TxnId
c = txn 2 3

-- two places under a root, and a file in the first
abbrev places : List Line
places = roots db ∷ inner (db ∷ []) x ∷ inner (db ∷ []) y ∷ file (x ∷ []) f1 ∷ []

-- of the waiters on a file that moves, those that fail the rule of the graph are removed
row_file_moves : Rows AtBlock 3 (places ++
    begins a ∷ begins b ∷ begins c ∷ locks_all a IX (db ∷ x ∷ y ∷ [])
    ++ locks a X f1
    ∷ locks_all b IX (db ∷ x ∷ [])
    ++ waits b X f1
    ∷ locks_all c IS (db ∷ x ∷ y ∷ [])
    ++ waits c S f1
    ∷ tells (command.Move a f1 (ref (y ∷ []))) b notice.Moved
    ∷ done (command.Unlock a x)
    ∷ refuses (command.Unlock a y) (no.HeldChild f1)
    ∷ tells (command.Commit a) c (notice.Granted f1 S) ∷ [])
row_file_moves = computed refl

-- no node gets below itself; a node without parents is a root
row_no_cycle : Rows AtBlock 1 (
    roots db ∷ inner (db ∷ []) x ∷ inner (x ∷ []) y ∷ begins a
    ∷ locks a X db
    ∷ refuses (command.Move a x (ref (y ∷ []))) no.NeedExclusive
    ∷ locks a X x
    ∷ refuses (command.Move a x (ref (y ∷ []))) (no.NeedParents y)
    ∷ locks a IX y
    ∷ refuses (command.Move a x (ref (y ∷ []))) (no.Cycle y)
    ∷ refuses (command.Move a x (ref (x ∷ []))) (no.Cycle x)
    ∷ done (command.Move a x (ref []))
    ∷ done (command.Unlock a db)
    ∷ refuses (command.Unlock a x) (no.HeldChild y) ∷ [])
row_no_cycle = computed refl

-- a move needs IX on each new parent
row_new_parent : Rows AtBlock 2 (places ++
    begins a ∷ begins b ∷ locks_all a IX (db ∷ x ∷ [])
    ++ locks a X f1
    ∷ locks b IS db
    ∷ locks b S y
    ∷ refuses (command.Move a f1 (ref (y ∷ []))) (no.NeedParents y)
    ∷ waits a IX y ∷ [])
row_new_parent = computed refl

-- X on all old and all new parents is enough in place of X on the node, but not if there are none
row_all_parents : Rows AtBlock 1 (places ++
    begins a
    ∷ locks a IX db
    ∷ locks a X x
    ∷ refuses (command.Move a f1 (ref (y ∷ []))) no.NeedExclusive
    ∷ locks a X y
    ∷ done (command.Move a f1 (ref (y ∷ [])))
    ∷ says (command.Effective a f1) (answer.Effect effect.X)
    ∷ holds a f1 NL
    ∷ refuses (command.Move a f1 (ref [])) no.BadParents
    ∷ done (command.Move a y (ref []))
    ∷ holds a y X ∷ [])
row_all_parents = computed refl

-- intervals and records do not move, and a file has inner nodes above it
row_kinds : Rows AtBlock 1 (prelude ++
    begins words.a
    ∷ refuses (command.Move words.a words.i1_0 (ref (words.db ∷ []))) no.BadParents
    ∷ refuses (command.Move words.a words.r1 (ref (words.db ∷ []))) no.BadParents
    ∷ refuses (command.Move words.a words.f1 (ref (words.f1 ∷ []))) no.BadParents ∷ [])
row_kinds = computed refl
