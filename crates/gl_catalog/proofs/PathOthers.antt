-- What a path leaves to other transactions, as the run of locks that it is. For Manager.lock_path_telling.
use Rattle.std.specs.Prelude.{◌≡◌, ℕ, zero, suc, Bool, false, ◌||◌, List, [], ◌∷◌}
use Rattle.std.specs.List.{list_any}
use Rattle.std.proofs.Common.{refl, ap, ◌∙◌, subst}
use Rattle.gl_model.specs.declared.txn.TxnId.{TxnId}
use Rattle.gl_model.specs.Lawful.{IsLawful}
use Rattle.gl_model.specs.Tellings.{Told}
use Rattle.gl_steps.specs.declared.command.Answer.{Answer}
use Rattle.gl_steps.specs.declared.command.Command.{Command}
use Rattle.gl_catalog.specs.Manager.{ManagerView, state_of}
use Rattle.gl_catalog.specs.Paths.{Ask, IsPath, LeavesAllBut, lock_of}
use Rattle.gl_steps.specs.Promises.{KeepsEffects, is_grant_to, is_of_rows, names, same_txn, told_granted}
use Rattle.gl_catalog.specs.Replies.{Says}
use Rattle.gl_steps.specs.Step.{Run}
use Rattle.gl_catalog.proofs.PathRuns.{told_nobody}
use Rattle.gl_steps.proofs.OthersBelow.{same_below}
use Rattle.gl_catalog.proofs.RunsOn.{leaves_others}
use Rattle.gl_steps.proofs.StepsKeepLaw.{runs_keep_law}

-- the run of a path: its commands are locks of its own transaction alone, and only its last reply tells anybody
record RunsBy (t : TxnId) (m : ManagerView) (r : Says) (m' : ManagerView) : Type 0 where
  commands : List Command
  replies : List (Answer × Told)
  run : Run (state_of m) commands replies (state_of m')
  unnamed : (u : TxnId) → same_txn u t ≡ false → list_any (names u) commands ≡ false
  no_rows : list_any is_of_rows commands ≡ false
  tells : (u : TxnId) → told_granted u replies ≡ told_granted u (r ∷ [])

or_false : (a b : Bool) → a ≡ false → b ≡ false → (a || b) ≡ false
or_false a b h k = ap (λ x. x || b) h ∙ k

path_runs : (k : ℕ) (t : TxnId) (ask last : Ask) (m : ManagerView) (r : Says) (m' : ManagerView) → IsPath k t ask m last r m' → RunsBy t m r m'
path_runs zero t ask last m r m' path = record {
  commands = lock_of t last ∷ [];
  replies = r ∷ [];
  run = (state_of m', path.0.step, refl);
  unnamed = λ u other. or_false (same_txn u t) false other refl;
  no_rows = refl;
  tells = λ u. refl;
}
path_runs (suc k) t ask last m r m' path =
    let rest = path_runs k t ask last path.2 r m' path.5 in
    let quiet = told_nobody ask.0 path.0.0 path.1 path.4 in
    record {
      commands = lock_of t path.0 ∷ rest.commands;
      replies = path.1 ∷ rest.replies;
      run = (state_of path.2, path.3.step, rest.run);
      unnamed = λ u other. or_false (same_txn u t) _ other (rest.unnamed u other);
      no_rows = rest.no_rows;
      tells = λ u. ap (λ told. list_any (is_grant_to u) told || told_granted u rest.replies) quiet ∙ rest.tells u;
    }

pub path_leaves : (k : ℕ) (t : TxnId) (ask last : Ask) (m : ManagerView) (r : Says) (m' : ManagerView) → IsLawful (state_of m) → IsPath k t ask m last r m'
    → LeavesAllBut t (state_of m) r (state_of m')
path_leaves k t ask last m r m' law path u alive other =
    let all = path_runs k t ask last m r m' path in
    let left = leaves_others (state_of m) (state_of m') all.commands all.replies law all.run u alive (all.unnamed u other) in
    let law' = runs_keep_law (state_of m) (state_of m') all.commands all.replies law all.run in
    record {
      effects = subst (KeepsEffects (state_of m) (state_of m') u) (all.tells u) left.effects;
      below = λ n reads. same_below (state_of m) (state_of m') all.commands all.replies law law' n (left.below n reads) all.no_rows;
    }
