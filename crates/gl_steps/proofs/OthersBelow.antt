-- What others cannot do below what a transaction reads, over a run: records are added and removed there by adopt and forget alone.
use Rattle.gl_steps.proofs.Words.{[], ◌∙◌, ◌∷◌, ◌≡◌, ◌≤◌, ⊎_elim, Adopts, Answer, ap, arith, Bool, clash, Command, EffS, false, first_parent, Forgets, Graph}
use Rattle.gl_steps.proofs.Words.{inl, inr, is_adopted, is_live, is_of_rows, IsBelow, IsLawful, keys_in, List, list_any, lives, names, NodeId, or_no, refl, Run}
use Rattle.gl_steps.proofs.Words.{SameBelow, shape_of, split, State, Step, subst, sym, Told, true}
use Rattle.gl_modes.proofs.NodeLemmas.{same_node-from_equal}
use Rattle.gl_modes.proofs.Words.{not_true}
use Rattle.gl_steps.specs.declared.command.Command.TheVariants as command
use Rattle.gl_steps.specs.Promises.{is_of_rows_of, LeavesBelow, OthersKeepBelow, OthersKeepFile, OthersLeaveBelow, SameBelowOf, SomeStep}
use Rattle.gl_steps.proofs.KeptKinds.{KeepsKinds}
use Rattle.gl_steps.proofs.OneStep.{step_keeps}
use Rattle.gl_steps.proofs.OthersKeep.{birth_of, run_keeps}
use Rattle.gl_steps.proofs.StepBelow.{above_stands, below_stands, file_stands, plain_below, read_stands, reads_on, rows_below, StepBelow}
use Rattle.gl_steps.proofs.StepsKeepLaw.{runs_keep_law, steps_keep_law}

-- Many steps.

none_below : (s s' : State) → IsLawful s → s' ≡ s → (n : NodeId) → LeavesBelow s [] [] s' n
none_below s s' law e n = subst (λ x. LeavesBelow s [] [] x n) (sym e) (record {
  stays = λ r _ _. record { kept = λ on. (on, refl); no_more = λ on. on };
  came = λ r dead on. clash (below_stands s.graph law.graph n r on) dead;
  unadopted = λ r _ on. below_stands s.graph law.graph n r on;
  went = λ r on dead. clash (below_stands s.graph law.graph n r on) dead;
})

-- nothing is below a node that does not live
gone_below : (s s' : State) (cs : List Command) (rs : List (Answer × Told)) → IsLawful s → IsLawful s' → (n : NodeId) → is_live s.graph n ≡ false
    → is_live s'.graph n ≡ false → LeavesBelow s cs rs s' n
gone_below s s' cs rs law law' n dead dead' = record {
  stays = λ r _ _. record { kept = λ on. before r on; no_more = λ on. after r on };
  came = λ r _ on. after r on;
  unadopted = λ r _ on. after r on;
  went = λ r on _. before r on;
}
  where
    before : {C : Type 0} (r : NodeId) → IsBelow s.graph n r → C
    before r on = clash (above_stands s.graph law.graph n r on) dead

    after : {C : Type 0} (r : NodeId) → IsBelow s'.graph n r → C
    after r on = clash (above_stands s'.graph law'.graph n r on) dead'

-- one step and then a run
module _ (s mid s' : State) (law : IsLawful s) (lawm : IsLawful mid) (law' : IsLawful s') (c : Command) (x : Answer × Told) (cs : List Command)
    (rs : List (Answer × Told)) (step : Step s c x.0 x.1 mid) (run : Run mid cs rs s') (n : NodeId) (first : StepBelow s c x mid n)
    (rest : LeavesBelow mid cs rs s' n) (between : (r : NodeId) → is_live s.graph r ≡ true → is_live s'.graph r ≡ true → is_live mid.graph r ≡ true)
    (kinds : KeepsKinds mid.graph s'.graph) where
  -- one that lives after the step is below n there if it is below n at the end
  below_mid : (r : NodeId) → is_live mid.graph r ≡ true → IsBelow s'.graph n r → IsBelow mid.graph n r
  below_mid r live on = (rest.stays r live (below_stands s'.graph law'.graph n r on)).no_more on

  -- and has its file from there on
  file_same : (r : NodeId) → is_live mid.graph r ≡ true → IsBelow s'.graph n r → first_parent s'.graph r ≡ first_parent mid.graph r
  file_same r live on = (kinds r live (below_stands s'.graph law'.graph n r on)).file (below_mid r live on).is_record

  cons_came : (r : NodeId) → is_live s.graph r ≡ false → IsBelow s'.graph n r → SomeStep (Adopts (first_parent s'.graph r) r) s (c ∷ cs) (x ∷ rs) s'
  cons_came r dead on =
      split (is_live mid.graph r)
      (λ live. (mid, step, inl (subst (λ f. Adopts f r s c x mid) (sym (file_same r live on)) (first.came r dead (below_mid r live on)).0, run)))
      (λ none. (mid, step, inr (rest.came r none on)))

  -- a record that the step adopts has a marked file at the end
  marked_end : (r : NodeId) → is_live s.graph r ≡ false → is_live mid.graph r ≡ true → IsBelow s'.graph n r
      → is_adopted (shape_of s'.graph (first_parent s'.graph r)) ≡ true
  marked_end r dead live on =
      let same = file_same r live on in
      let was = below_mid r live on in
      let stands : is_live s'.graph (first_parent mid.graph r) ≡ true = ap (is_live s'.graph) (sym same) ∙ file_stands s'.graph law'.graph r on.is_record in
      let stood = file_stands mid.graph lawm.graph r was.is_record in
      ap (λ f. is_adopted (shape_of s'.graph f)) same ∙ (kinds (first_parent mid.graph r) stood stands).mark (first.came r dead was).1

  cons_unadopted : (r : NodeId) → is_adopted (shape_of s'.graph (first_parent s'.graph r)) ≡ false → IsBelow s'.graph n r → is_live s.graph r ≡ true
  cons_unadopted r plain on =
      let live = rest.unadopted r plain on in
      split (is_live s.graph r) (λ stood. stood) (λ dead. clash (marked_end r dead live on) plain)

  cons_went : (r : NodeId) → IsBelow s.graph n r → is_live s'.graph r ≡ false → SomeStep (Forgets r) s (c ∷ cs) (x ∷ rs) s'
  cons_went r on dead' =
      split (is_live mid.graph r)
      (λ live. (mid, step, inr (rest.went r ((first.stays r (below_stands s.graph law.graph n r on) live).kept on).0 dead')))
      (λ dead. (mid, step, inl (first.went r on dead, run)))

  cons_below : LeavesBelow s (c ∷ cs) (x ∷ rs) s' n
  cons_below = record {
    stays = λ r live live'.
        let there = between r live live' in
        let a = first.stays r live there in
        let b = rest.stays r there live' in
        record {
          kept = λ on. let at = a.kept on in let end = b.kept at.0 in (end.0, end.1 ∙ at.1);
          no_more = λ on. a.no_more (b.no_more on);
        };
    came = cons_came;
    unadopted = cons_unadopted;
    went = cons_went;
  }

-- step by step: t still reads n while it lives, and what is removed does not return
pub others_leave_below : OthersLeaveBelow
others_leave_below s s' cs rs t n law run alive apart reads = along cs rs s s' law run alive apart reads
  where
    along : (cs : List Command) (rs : List (Answer × Told)) (s s' : State) → IsLawful s → Run s cs rs s' → lives s t ≡ true → list_any (names t) cs ≡ false
        → EffS s t.slot n → LeavesBelow s cs rs s' n
    along [] [] s s' law run alive apart reads = none_below s s' law run n
    along [] (r ∷ rs) s s' law run alive apart reads = absurd run
    along (c ∷ cs) [] s s' law run alive apart reads = absurd run
    along (c ∷ cs) (r ∷ rs) s s' law run alive apart reads =
        let both = or_no (names t c) (list_any (names t) cs) apart in
        let mid = run.0 in
        let lawm = steps_keep_law s mid c r.0 r.1 law run.1 in
        let law' = runs_keep_law mid s' cs rs lawm run.2 in
        let kept = step_keeps s law t alive r.0 r.1 mid lawm c both.0 run.1 in
        let over = run_keeps cs rs mid s' t lawm run.2 kept.alive both.1 in
        let stood = read_stands s law t.slot n reads in
        let births : (q : NodeId) → is_live s.graph q ≡ true → q.birth ≤ mid.graph.births =
        λ q live. (let old = birth_of s.graph law.graph q live in let first = kept.births in omega arith) in
        let first : StepBelow s c r mid n =
        split (is_of_rows c) (λ rows. rows_below s mid law lawm c r n rows kept.kinds run.1)
        (λ plain. plain_below s mid law lawm c r n (kept.below plain n reads)) in
        let rest : LeavesBelow mid cs rs s' n =
        split (is_live mid.graph n)
        (λ live. along cs rs mid s' lawm run.2 kept.alive both.1 (reads_on s mid lawm t.slot n (kept.greater n stood live) live reads))
        (λ dead. gone_below mid s' cs rs lawm law' n dead (not_true (is_live s'.graph n) (λ live. clash (over.old n (births n stood) live) dead))) in
        cons_below s mid s' law lawm law' c r cs rs run.1 run.2 n first rest (λ q live live'. over.old q (births q live) live') over.kinds

-- If no row is adopted or forgotten, or none of one file.

-- steps that are so are told by a test of their commands
abbrev Tells : (State → Command → Answer × Told → State → Type 0) → (Command → Bool) → Type 0
Tells IsSo test = (s : State) (c : Command) (x : Answer × Told) (s' : State) → IsSo s c x s' → test c ≡ true

module _ (IsSo : State → Command → Answer × Told → State → Type 0) (test : Command → Bool) (tested : Tells IsSo test) where
  no_step : (cs : List Command) (rs : List (Answer × Told)) (s s' : State) → list_any test cs ≡ false → SomeStep IsSo s cs rs s' → ⊥
  no_step [] [] s s' none some = some
  no_step [] (r ∷ rs) s s' none some = some
  no_step (c ∷ cs) [] s s' none some = some
  no_step (c ∷ cs) (r ∷ rs) s s' none some =
      let both = or_no (test c) (list_any test cs) none in
      ⊎_elim (λ (here : IsSo s c r some.0 × Run some.0 cs rs s'). clash (tested s c r some.0 here.0) both.0)
      (λ later. no_step cs rs some.0 s' both.1 later) some.2

-- a step that adopts r as a record of f, or that forgets r, is of rows, and of those of the file
adopts_row : (f r : NodeId) (s : State) (c : Command) (x : Answer × Told) (s' : State) → Adopts f r s c x s' → is_of_rows c ≡ true
adopts_row f r s (command.Adopt h keys) x s' so = refl
adopts_row f r s c x s' so = absurd so

forgets_row : (r : NodeId) (s : State) (c : Command) (x : Answer × Told) (s' : State) → Forgets r s c x s' → is_of_rows c ≡ true
forgets_row r s (command.Forget q) x s' so = refl
forgets_row r s c x s' so = absurd so

adopts_of : (g : Graph) (f r : NodeId) (s : State) (c : Command) (x : Answer × Told) (s' : State) → Adopts f r s c x s' → is_of_rows_of g f c ≡ true
adopts_of g f r s (command.Adopt h keys) x s' so = same_node-from_equal h f so.0
adopts_of g f r s c x s' so = absurd so

forgets_of : (g : Graph) (r : NodeId) (s : State) (c : Command) (x : Answer × Told) (s' : State) → Forgets r s c x s'
    → is_of_rows_of g (first_parent g r) c ≡ true
forgets_of g r s (command.Forget q) x s' so = same_node-from_equal (first_parent g q) (first_parent g r) (ap (first_parent g) so.0)
forgets_of g r s c x s' so = absurd so

module _ (s s' : State) (cs : List Command) (rs : List (Answer × Told)) (law : IsLawful s) (law' : IsLawful s') (n : NodeId)
    (leaves : LeavesBelow s cs rs s' n) where
  -- a record that no command forgets stays
  kept_by : (test : Command → Bool) (r : NodeId) → Tells (Forgets r) test → list_any test cs ≡ false → IsBelow s.graph n r
      → IsBelow s'.graph n r × (keys_in (shape_of s'.graph r) ≡ keys_in (shape_of s.graph r))
  kept_by test r tested none on =
      split (is_live s'.graph r) (λ live'. (leaves.stays r (below_stands s.graph law.graph n r on) live').kept on)
      (λ dead. absurd (no_step (Forgets r) test tested cs rs s s' none (leaves.went r on dead)))

  -- and one that none adopts was there
  no_more_by : (test : Command → Bool) (r : NodeId) → Tells (Adopts (first_parent s'.graph r) r) test → list_any test cs ≡ false
      → IsBelow s'.graph n r → IsBelow s.graph n r
  no_more_by test r tested none on =
      split (is_live s.graph r) (λ live. (leaves.stays r live (below_stands s'.graph law'.graph n r on)).no_more on)
      (λ dead. absurd (no_step (Adopts (first_parent s'.graph r) r) test tested cs rs s s' none (leaves.came r dead on)))

  -- if no row is adopted or forgotten, the records below n are the same
  pub same_below : list_any is_of_rows cs ≡ false → SameBelow s.graph s'.graph n
  same_below none = record {
    kept = λ r. kept_by is_of_rows r (forgets_row r) none;
    no_more = λ r. no_more_by is_of_rows r (adopts_row (first_parent s'.graph r) r) none;
  }

  -- if none of a file is, those of the file are
  pub same_below_of : (f : NodeId) → list_any (is_of_rows_of s.graph f) cs ≡ false → SameBelowOf s.graph s'.graph f n
  same_below_of f none = record {
    kept = λ r is. kept_by (is_of_rows_of s.graph f) r (subst (λ h. Tells (Forgets r) (is_of_rows_of s.graph h)) is (forgets_of s.graph r)) none;
    no_more = λ r is. no_more_by (is_of_rows_of s.graph f) r
        (subst (λ h. Tells (Adopts (first_parent s'.graph r) r) (is_of_rows_of s.graph h)) is (adopts_of s.graph (first_parent s'.graph r) r)) none;
  }

pub others_keep_below : OthersKeepBelow
others_keep_below s s' cs rs t n law run alive apart plain reads =
    same_below s s' cs rs law (runs_keep_law s s' cs rs law run) n (others_leave_below s s' cs rs t n law run alive apart reads) plain

pub others_keep_file : OthersKeepFile
others_keep_file s s' cs rs t n f law run alive apart plain reads =
    same_below_of s s' cs rs law (runs_keep_law s s' cs rs law run) n (others_leave_below s s' cs rs t n law run alive apart reads) f plain
