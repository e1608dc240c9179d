-- Worked rows of a schema that changes: how a drop is refused, its notices, and an index that its maker holds.
use Rattle.gl_steps.proofs.Words.{◌++◌, [], ◌∷◌, AtBlock, Command, IS, IX, List, NodeId, refl, S, X, ℕ}
use Rattle.gl_modes.specs.declared.refusal.Refusal.TheVariants as no
use Rattle.gl_model.specs.declared.answers.Notice.TheVariants as notice
use Rattle.gl_model.specs.declared.answers.Effect.TheVariants as effect
use Rattle.gl_steps.specs.declared.command.Answer.TheVariants as answer
use Rattle.gl_steps.specs.declared.command.Command.TheVariants as command
use Rattle.gl_steps.proofs.RowWords.{a, b, begins, computed, db, done, f1, holds, i1, i1_0, i1_1, id, indexed, locks, locks_all, prelude, r1, r2, ref, refuses}
use Rattle.gl_steps.proofs.RowWords.{roots, Rows, says, tells, waits, z}

-- the index that is made again, with the key of the first node that was freed
abbrev again : NodeId
again = record { key = 2; birth = 8 }

-- a file, an index and an inner node are dropped, the lowest first
row_drops : Rows AtBlock 2 (prelude ++
    begins a ∷ begins b
    ∷ refuses (command.Drop a (id 99)) no.NoSuchNode
    ∷ refuses (command.Drop a r1) no.BadParents
    ∷ refuses (command.Drop a i1_0) no.BadParents
    ∷ refuses (command.Drop a f1) no.NeedExclusive
    ∷ locks a IX db
    ∷ locks a X i1
    ∷ refuses (command.Drop a i1) no.NeedExclusive
    ∷ locks_all a X (f1 ∷ i1_0 ∷ i1_1 ∷ r1 ∷ r2 ∷ [])
    ++ refuses (command.Drop a i1) no.FileInUse
    ∷ done (command.Delete a r1)
    ∷ done (command.Delete a r2)
    ∷ refuses (command.Drop a f1) no.FileInUse
    ∷ locks b IS db
    ∷ waits b IS i1
    ∷ tells (command.Drop a i1) b notice.Gone
    ∷ refuses (command.Held a i1) no.NoSuchNode
    ∷ refuses (command.Held a i1_0) no.NoSuchNode
    ∷ done (command.Commit b)
    ∷ locks a X db
    ∷ refuses (command.Drop a db) no.HasChildren
    ∷ done (command.Drop a f1)
    ∷ done (command.Drop a db)
    ∷ done (command.Commit a) ∷ [])
row_drops = computed refl

-- an index of a file that had records is made under X on the file, and is held in X
row_index_again : Rows AtBlock 1 (prelude ++
    begins a
    ∷ refuses (command.IndexBy a (ref (db ∷ [])) f1 (ref []) (ref []) (ref [])) no.NeedExclusive
    ∷ locks a IX db
    ∷ locks_all a X (f1 ∷ i1 ∷ i1_0 ∷ i1_1 ∷ r1 ∷ r2 ∷ [])
    ++ refuses (command.IndexBy a (ref (db ∷ [])) f1 (ref []) (ref []) (ref [])) no.FileInUse
    ∷ done (command.Delete a r1)
    ∷ done (command.Delete a r2)
    ∷ done (command.Drop a i1)
    ∷ refuses (command.IndexBy a (ref (f1 ∷ [])) f1 (ref []) (ref []) (ref [])) no.BadParents
    ∷ refuses (command.IndexBy a (ref (db ∷ [])) f1 (ref (0 ∷ [])) (ref []) (ref [])) no.BadKeys
    ∷ says (command.IndexBy a (ref (db ∷ [])) f1 (ref (70 ∷ [])) (ref []) (ref [])) (answer.Node again)
    ∷ holds a again X
    ∷ done (command.Drop a again) ∷ [])
row_index_again = computed refl

-- it needs IX on each parent
row_index_needs_parents : Rows AtBlock 1 (indexed ++
    roots (id 6)
    ∷ begins z
    ∷ locks z IX db
    ∷ locks z X f1
    ∷ refuses (command.IndexBy z (ref (id 6 ∷ [])) f1 (ref (5 ∷ [])) (ref []) (ref [])) (no.NeedParents (id 6))
    ∷ locks z IX (id 6)
    ∷ says (command.IndexBy z (ref (id 6 ∷ [])) f1 (ref (5 ∷ [])) (ref []) (ref [])) (answer.Node (id 7))
    ∷ holds z (id 7) X ∷ [])
row_index_needs_parents = computed refl

-- the index that is made beside the first, with an interval for each of the two records
abbrev i2 : NodeId
i2 = id 8

abbrev i2_0 : NodeId
i2_0 = id 9

abbrev i2_1 : NodeId
i2_1 = id 10

-- an index over these records, with these keys
abbrev over : List NodeId → List ℕ → Command
over rs ks = command.IndexBy a (ref (db ∷ [])) f1 (ref (70 ∷ [])) (ref rs) (ref ks)

-- an index is made over all records of its file, of which its maker holds none: each has one key more, and the interval that contains it as one parent more
row_index_over : Rows AtBlock 2 (prelude ++
    begins a ∷ begins b
    ∷ locks a IX db
    ∷ locks a X f1
    ∷ refuses (over (r1 ∷ r2 ∷ []) (60 ∷ 80 ∷ [])) no.NeedExclusive
    ∷ locks a X i1
    ∷ locks a S r1
    ∷ refuses (over (r1 ∷ r2 ∷ []) (60 ∷ 80 ∷ [])) no.FileInUse
    ∷ done (command.Unlock a r1)
    ∷ refuses (over [] []) no.FileInUse
    ∷ refuses (over (r1 ∷ []) (60 ∷ [])) no.BadKeys
    ∷ refuses (over (r2 ∷ r1 ∷ []) (80 ∷ 60 ∷ [])) no.BadKeys
    ∷ refuses (over (r1 ∷ r1 ∷ []) (60 ∷ 60 ∷ [])) no.BadKeys
    ∷ refuses (over (r1 ∷ r2 ∷ []) (60 ∷ [])) no.BadKeys
    ∷ says (over (r1 ∷ r2 ∷ []) (60 ∷ 80 ∷ [])) (answer.Node i2)
    ∷ holds a i2 X
    ∷ says (command.Effective a r2) (answer.Effect effect.X)
    ∷ done (command.Commit a)
    ∷ locks_all b IX (db ∷ f1 ∷ i1 ∷ i1_1 ∷ i2 ∷ [])
    ++ refuses (command.Lock b r2 X) (no.NeedParents i2_1)
    ∷ locks b S i2_1
    ∷ says (command.Effective b r1) (answer.Effect effect.None)
    ∷ says (command.Effective b r2) (answer.Effect effect.S)
    ∷ done (command.Unlock b i2_1)
    ∷ locks b IX i2_1
    ∷ locks b X r2 ∷ [])
row_index_over = computed refl
