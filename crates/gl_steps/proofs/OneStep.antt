-- One step of a command that does not name t keeps t.
use Rattle.gl_steps.proofs.Words.{◌+◌, [], ◌∷◌, ◌≡◌, ◌≢◌, accepted_once, and_both, Answer, Answers, Bool, Command, false, first_refusal, Goes, inl, inr}
use Rattle.gl_steps.proofs.Words.{is_of_rows, IsLawful, joining_age, List, lives, min, names, no_txn, None, not_false, Option, or_no, query_answer, refl}
use Rattle.gl_steps.proofs.Words.{Refusal, refusal_of, same_txn, shape_of, Some, State, Step, subst, sym, test_fails, tests_of, Told, true, TxnId}
use Rattle.gl_modes.specs.declared.refusal.Refusal.TheVariants as no
use Rattle.gl_steps.specs.declared.command.Command.TheVariants as command
use Rattle.gl_steps.proofs.Keeps.{Keeps}
use Rattle.gl_steps.proofs.Made.{adopted_is, indexed_is, inserted_is, made_is}
use Rattle.gl_steps.proofs.NotRefused.{differ, exclusive, nodes_live, txn_lives}
use Rattle.gl_steps.proofs.GrantCommands.{begin_keeps, begun_keeps, cancel_keeps, escalate_keeps, joining_differs, lock_keeps, release_keeps, same_keeps}
use Rattle.gl_steps.proofs.GrantCommands.{settle_keeps, try_keeps, unlock_keeps}
use Rattle.gl_steps.proofs.GraphCommands.{delete_keeps, file_keeps, index_keeps, inner_keeps, insert_keeps, move_keeps, rekey_keeps}
use Rattle.gl_steps.proofs.SchemaKeeps.{itself_locked, may_index}
use Rattle.gl_steps.proofs.SchemaSteps.{drop_keeps, index_by_keeps}
use Rattle.gl_steps.proofs.RowSteps.{adopt_keeps, forget_keeps}
use Rattle.gl_steps.proofs.SplitKeeps.{merge_by_keeps, split_by_keeps}

-- each of these passed
abbrev pub AllNone : List (Option Refusal) → Type 0
AllNone [] = Unit {0}
AllNone (r ∷ rs) = (r ≡ None) × AllNone rs

-- the tests that were passed, one by one
pub all_none : (rs : List (Option Refusal)) → first_refusal rs ≡ None → AllNone rs
all_none [] h = tt
all_none (None ∷ rs) h = (refl, all_none rs h)
all_none (Some r ∷ rs) h = absurd (some_none h)
  where
    some_none : {r : Refusal} → Some r ≡ None → ⊥
    some_none e = cc

-- and if each passed, none refuses
pub none_first : (rs : List (Option Refusal)) → AllNone rs → first_refusal rs ≡ None
none_first [] h = refl
none_first (None ∷ rs) h = none_first rs h.1
none_first (Some r ∷ rs) h = absurd (cc h.0)

module _ (s : State) (law : IsLawful s) (t : TxnId) (alive : lives s t ≡ true) (a : Answer) (told' : Told) (s' : State) (law' : IsLawful s') where
  abbrev Kept : Bool → State → Type 0
  Kept rows x = Keeps s x t told' rows

  finish : {rows : Bool} (next : State) → s' ≡ accepted_once next → (IsLawful (accepted_once next) → Kept rows (accepted_once next)) → Kept rows s'
  finish {rows} next is f = subst (Kept rows) (sym is) (f (subst IsLawful is law'))

  other_slot : (u : TxnId) → same_txn t u ≡ false → no_txn s u ≡ None → u.slot ≢ t.slot
  other_slot u apart h = differ s t u alive (txn_lives s u h) apart

  accepted : (c : Command) → names t c ≡ false → AllNone (tests_of s c) → Answers s c (query_answer s c) a told' s' → Kept (is_of_rows c) s'
  accepted (command.Inner ps) apart passed ans =
      finish ans.0 ans.2 (λ l. inner_keeps s law t alive ans.0 l _ ans.1.0.key ps.now (made_is s ans.0 ans.1.1 ans.1.4))
  accepted (command.File ps) apart passed ans =
      finish ans.0 ans.2 (λ l. file_keeps s law t alive ans.0 l _ ans.1.0.key ps.now (made_is s ans.0 ans.1.1 ans.1.4))
  accepted (command.Index ps f bs) apart passed ans =
      finish ans.0 ans.2 (λ l. index_keeps s law t alive ans.0 l _ ans.1.0.key ps.now f bs.now ans.1.1.interval_keys (indexed_is s ans.0 ans.1.1 ans.1.4))
  accepted command.Begin apart passed ans = finish ans.0 ans.2 (λ l. begin_keeps s law t alive ans.0 (s.begins + 1) a told' ans.1)
  accepted (command.BeginAgain since) apart passed ans = finish ans.0 ans.2 (λ l. begin_keeps s law t alive ans.0 (min since (s.begins + 1)) a told' ans.1)
  accepted (command.Join u since) apart passed ans =
      finish ans.0 ans.2 (λ l. begun_keeps s law t alive ans.0 u (joining_age s since) since told' (joining_differs s t alive u passed.1.1.0) ans.1.2)
  accepted (command.Lock u n m) apart passed ans = finish ans.0 ans.2 (λ l. lock_keeps s law t alive ans.0 u n m a told' (other_slot u apart passed.1.0) ans.1)
  accepted (command.Try u n m) apart passed ans = finish ans.0 ans.2 (λ l. try_keeps s law t alive ans.0 u n m a told' (other_slot u apart passed.1.0) ans.1)
  accepted (command.Unlock u n) apart passed ans = finish ans.0 ans.2 (λ l. unlock_keeps s law t alive ans.0 u n a told' (other_slot u apart passed.1.0) ans.1)
  accepted (command.Escalate u n) apart passed ans =
      finish ans.0 ans.2 (λ l. escalate_keeps s law t alive ans.0 u n a told' (other_slot u apart passed.1.0) ans.1)
  accepted (command.Cancel u) apart passed ans = finish ans.0 ans.2 (λ l. cancel_keeps s law t alive ans.0 u a told' (other_slot u apart passed.1.0) ans.1)
  accepted (command.Commit u) apart passed ans =
      finish ans.0 ans.2 (λ l. release_keeps s law t alive ans.0 u told' (other_slot u apart passed.1.0) ans.1.1 ans.1.2)
  accepted (command.Renew u since) apart passed ans =
      finish ans.0 ans.2 (λ l. begun_keeps s law t alive ans.0 u.slot (s.begins + 1) (min since (s.begins + 1)) told' (other_slot u apart passed.1.0) ans.1.2)
  accepted (command.Abort u) apart passed ans =
      finish ans.0 ans.2 (λ l. release_keeps s law t alive ans.0 u told' (other_slot u apart passed.1.0) ans.1.1 ans.1.2)
  accepted (command.Settle u) apart passed ans = finish ans.0 ans.2 (λ l. settle_keeps s law t alive ans.0 u a told' ans.1)
  accepted (command.Insert u f keys) apart passed ans =
      finish ans.0 ans.2 (λ l. insert_keeps s law t alive ans.0 l _ u.slot ans.1.0.key keys.now _ (other_slot u apart passed.1.1.0)
      (inserted_is s ans.0 u.slot ans.1.1 ans.1.4))
  accepted (command.Delete u r) apart passed ans =
      finish ans.0 ans.2 (λ l. delete_keeps s law t alive ans.0 l _ u.slot r (other_slot u apart passed.1.0)
      (and_both _ _ (nodes_live s (r ∷ []) passed.1.1.1.1.0)).0
      (not_false _ (test_fails _ no.NeedExclusive passed.1.1.1.1.1.1.0)) ans.1.2)
  accepted (command.Rekey u r i key) apart passed ans =
      finish ans.0 ans.2 (λ l. rekey_keeps s law t alive ans.0 l _ u.slot r i key (other_slot u apart passed.1.0)
      (and_both _ _ (nodes_live s (r ∷ i ∷ []) passed.1.1.1.1.0)).0
      (and_both _ _ (not_false _ (test_fails _ no.BadParents passed.1.1.1.1.1.0))).0 (exclusive s u.slot r true _ passed.1.1.1.1.1.1.0) ans.1.2)
  accepted (command.Move u n ps) apart passed ans =
      finish ans.0 ans.2 (λ l. move_keeps s law t alive ans.0 l _ u.slot n ps.now (other_slot u apart passed.1.0)
      (and_both _ _ (nodes_live s (n ∷ ps.now) passed.1.1.1.1.0)).0
      (not_false _ (or_no _ _ (test_fails _ no.BadParents passed.1.1.1.1.1.0)).0) (exclusive s u.slot n _ ps.now passed.1.1.1.1.1.1.0) ans.1.2)
  accepted (command.Adopt f keys) apart passed ans =
      finish ans.0 ans.2 (λ l. adopt_keeps s law t alive ans.0 l _ ans.1.0.key f keys.now (adopted_is s ans.0 ans.1.1 ans.1.4))
  accepted (command.Forget r) apart passed ans =
      finish ans.0 ans.2 (λ l. forget_keeps s law t alive ans.0 l _ r (not_false _ (test_fails _ no.BadParents passed.1.1.0)) ans.1.2)
  accepted (command.Drop u n) apart passed ans =
      finish ans.0 ans.2 (λ l. drop_keeps s law t alive ans.0 l _ u.slot n (other_slot u apart passed.1.0)
      (not_false _ (test_fails _ no.BadParents passed.1.1.1.1.1.0)) (test_fails _ _ passed.1.1.1.1.1.1.1.0)
      (itself_locked s u.slot n (shape_of s.graph n) (not_false _ (test_fails _ no.NeedExclusive passed.1.1.1.1.1.1.0))) ans.1.2)
  accepted (command.IndexBy u ps f bs rs ks) apart passed ans =
      let may = may_index s u ps f bs rs ks (none_first (tests_of s (command.IndexBy u ps f bs rs ks)) passed) in
      finish ans.0 ans.2 (λ l. index_by_keeps s law t alive ans.0 l _ u.slot (other_slot u apart passed.1.1.0) ps.now f bs.now rs.now ks.now ans.1.0
      may.free may.file may.locked may.unused ans.1.1 ans.1.4)
  accepted (command.Split u i at) apart passed ans =
      finish ans.0 ans.2 (λ l. split_by_keeps s law t alive told' u (other_slot u apart passed.1.1.0) i ans.1.0 at ans.0
      (none_first (tests_of s (command.Split u i at)) passed) ans.1.1 ans.1.4)
  accepted (command.Merge u i) apart passed ans =
      finish ans.0 ans.2 (λ l. merge_by_keeps s law t alive told' u (other_slot u apart passed.1.0) i ans.0
      (none_first (tests_of s (command.Merge u i)) passed) ans.1.2)
  accepted c apart passed ans = same_keeps s law t alive s' told' s' ans.same

  -- each command, and a step that changes nothing
  pub step_keeps : (c : Command) → names t c ≡ false → Step s c a told' s' → Kept (is_of_rows c) s'
  step_keeps c apart (inr lack) = same_keeps s law t alive s' told' s' lack.1.same
  step_keeps c apart (inl goes) = by (refusal_of s c) refl goes
    where
      by : (o : Option Refusal) → refusal_of s c ≡ o → Goes s c o a told' s' → Kept (is_of_rows c) s'
      by (Some r) e g = same_keeps s law t alive s' told' s' g.same
      by None e g = accepted c apart (all_none (tests_of s c) e) g
