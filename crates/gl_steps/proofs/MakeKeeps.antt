-- New nodes keep the law of a state: inner, file, index and insert.
use Rattle.gl_steps.proofs.Words.{[], ◌∷◌, ◌≡◌, Bor, first_refusal, IsLawful, List, NodeId, None, none_refused, not_false, not_refused, Option, Refusal}
use Rattle.gl_steps.proofs.Words.{same_number, State, subst, sym, test_fails, tests_of, TxnId, worn, ℕ}
use Rattle.gl_steps.specs.declared.command.Command.TheVariants as command
use Rattle.gl_graph.specs.Refusals.{file_refusal, index_refusal, inner_refusal}
use Rattle.gl_steps.proofs.KeepsLaw.{KeepsLaw}
use Rattle.gl_model.proofs.law.Records.{file-grows, grown-lawful, index-grows, inner-grows, placed-lawful}
use Rattle.gl_graph.proofs.Unrefused.{enough_room}
use Rattle.gl_steps.proofs.NotRefused.{active_is}

-- a test that was passed after the count of commands
pub behind_worn : (s : State) (o : Option Refusal) → first_refusal (worn s ∷ o ∷ []) ≡ None → o ≡ None
behind_worn s o h = (not_refused o [] (not_refused (worn s) (o ∷ []) h).1).0

pub inner_keeps : (ps : Bor (List NodeId)) → KeepsLaw (command.Inner ps)
inner_keeps ps s s' a told law free acc =
    subst IsLawful (sym acc.4) (grown-lawful s law s'.graph
    (inner-grows s.graph s'.graph law.graph ps.now acc.0 (behind_worn s (inner_refusal s.graph ps.now) free) acc.1))

pub file_keeps : (ps : Bor (List NodeId)) → KeepsLaw (command.File ps)
file_keeps ps s s' a told law free acc =
    subst IsLawful (sym acc.4) (grown-lawful s law s'.graph
    (file-grows s.graph s'.graph law.graph ps.now acc.0 (behind_worn s (file_refusal s.graph ps.now) free) acc.1))

pub index_keeps : (ps : Bor (List NodeId)) (f : NodeId) (bs : Bor (List ℕ)) → KeepsLaw (command.Index ps f bs)
index_keeps ps f bs s s' a told law free acc =
    subst IsLawful (sym acc.4)
    (grown-lawful s law s'.graph (index-grows s.graph s'.graph law.graph ps.now acc.0 f bs.now
    (behind_worn s (index_refusal s.graph ps.now f bs.now) free) acc.1))

pub insert_keeps : (t : TxnId) (f : NodeId) (keys : Bor (List ℕ)) → KeepsLaw (command.Insert t f keys)
insert_keeps t f keys s s' a told law free acc =
    let ok = none_refused (tests_of s (command.Insert t f keys)) free in
    subst IsLawful (sym acc.4)
    (placed-lawful s law f keys.now (not_false _ (test_fails _ _ (ok 6))) (same_number _ _ (not_false _ (test_fails _ _ (ok 7))))
    (enough_room s.graph 1 (ok 9)) s'.graph acc.0 acc.1
    t.slot (active_is s t (ok 2) (ok 3) (ok 4)) (ok 8))
