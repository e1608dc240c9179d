-- Worked rows of records that are adopted and forgotten, and of a return to a savepoint.
use Rattle.gl_steps.proofs.Words.{◌++◌, [], ◌∷◌, AtBlock, IX, NL, refl, X}
use Rattle.gl_modes.specs.declared.refusal.Refusal.TheVariants as no
use Rattle.gl_steps.specs.declared.command.Answer.TheVariants as answer
use Rattle.gl_steps.specs.declared.command.Command.TheVariants as command
use Rattle.gl_steps.proofs.RowWords.{a, begins, computed, db, done, f1, holds, i1, i1_0, id, indexed, locks, locks_all, prelude, r1, ref, refuses, Rows, says}
use Rattle.gl_steps.proofs.RowWords.{z}

-- a record is adopted without a transaction, and is forgotten when nobody holds it any more
row_adopt_and_forget : Rows AtBlock 1 (indexed ++
    refuses (command.Adopt (id 99) (ref (50 ∷ []))) no.NoSuchNode
    ∷ refuses (command.Adopt f1 (ref [])) no.BadKeys
    ∷ says (command.Adopt f1 (ref (50 ∷ []))) (answer.Node r1)
    ∷ begins z ∷ locks_all z IX (db ∷ f1 ∷ i1 ∷ i1_0 ∷ [])
    ++ locks z X r1
    ∷ refuses (command.Forget r1) no.RecordInUse
    ∷ refuses (command.Forget f1) no.BadParents
    ∷ done (command.Commit z)
    ∷ done (command.Forget r1)
    ∷ refuses (command.Forget r1) no.NoSuchNode ∷ [])
row_adopt_and_forget = computed refl

-- a return to a savepoint, by unlocks: what was held then is held after it
row_back_to_savepoint : Rows AtBlock 1 (prelude ++
    begins a ∷ locks_all a IX (db ∷ f1 ∷ [])
    ++ locks_all a IX (i1 ∷ i1_0 ∷ [])
    ++ locks a X r1
    ∷ done (command.Unlock a r1)
    ∷ done (command.Unlock a i1_0)
    ∷ done (command.Unlock a i1)
    ∷ holds a db IX
    ∷ holds a f1 IX
    ∷ holds a r1 NL ∷ [])
row_back_to_savepoint = computed refl
