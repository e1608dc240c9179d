-- What others cannot change for a holder of a file or of intervals of its indexes, whatever they drop and make: an index that remains keeps its file and its
-- intervals.
use Rattle.std.specs.Prelude.{◌≡◌, ℕ, Bool, true, false, not, ◌||◌, List, [], ◌∷◌, is_some}
use Rattle.std.specs.List.{list_all, list_any}
use Rattle.std.proofs.Common.{refl, sym, ap, ⊎_elim, subst, ◌∙◌, arith, inl, inr}
use Rattle.gl_modes.proofs.NodeLemmas.{same_node-equal}
use Rattle.gl_modes.proofs.Words.{and_both, no, not_true, or_elim}
use Rattle.gl_modes.specs.declared.node.NodeId.{NodeId}
use Rattle.gl_modes.specs.Nodes.{same_node}
use Rattle.gl_graph.specs.Changes.{without_branch}
use Rattle.gl_graph.specs.Graph.{Graph, interval_of, intervals_of, is_child, is_live, shape_of}
use Rattle.gl_graph.specs.Lawful.{IsLawfulGraph}
use Rattle.gl_graph.specs.Refusals.{is_in_use}
use Rattle.gl_graph.specs.Shapes.{is_index_of_shape, is_movable_shape}
use Rattle.gl_graph.proofs.Branch.{left_live, left_shape, live}
use Rattle.gl_graph.proofs.KindRules.{file_plain, index_plain, interval_is, plain_live}
use Rattle.gl_graph.proofs.RecordParents.{index_of_index}
use Rattle.gl_graph.proofs.Unrefused.{or_no}
use Rattle.gl_model.specs.Lawful.{IsLawful, effective, is_at_least_effect}
use Rattle.gl_model.specs.State.{State, lives}
use Rattle.gl_model.specs.Tellings.{Told}
use Rattle.gl_model.specs.declared.txn.TxnId.{TxnId}
use Rattle.gl_steps.specs.declared.command.Answer.{Answer}
use Rattle.gl_steps.specs.declared.command.Command.{Command}
use Rattle.gl_steps.specs.Promises.{is_grant_to, is_of_rows, names, told_granted}
use Rattle.gl_steps.specs.Step.{Run, Step}
use Rattle.gl_steps.proofs.OthersKeep.{birth_of, KeepsOver, over_of_step, run_keeps}
use Rattle.gl_steps.proofs.StepsKeepLaw.{runs_keep_law, steps_keep_law}
use Rattle.gl_rows.specs.Promises.{AreIndexes, OthersKeepByIndexes, effect_by}
use Rattle.gl_rows.proofs.DroppedIndexes.{others_stay}
use Rattle.gl_rows.proofs.KeptIndexes.{KeepsIndexes, index_listed_still, index_still}
use Rattle.gl_rows.proofs.RunsKeepIndexes.{KeepsOrDrops, same_keeps, step_keeps}
use Rattle.gl_rows.proofs.Ways.{AreEach, each_more, each_same, recut_interval, recut_list, recut_step, same_interval, stands, stands_trans, StandsFor}
use Rattle.gl_steps.proofs.SplitKeeps.{IsRecut}
use Rattle.gl_steps.proofs.OneStep.{step_keeps as one_step_keeps}

-- an index that remains is one of the same file, and on the interval of each key t has the effective mode that it had
pub record StandsOn (s s' : State) (t : ℕ) (granted : Bool) (f i : NodeId) : Type 0 where
  pub index : is_index_of_shape f (shape_of s'.graph i) ≡ true
  pub intervals : (key : ℕ) → StandsFor s s' t granted (interval_of s.graph i key) (interval_of s'.graph i key)

-- so does each
abbrev pub AllStand : State → State → ℕ → Bool → Type 0
AllStand s s' t granted = (f i : NodeId) → is_index_of_shape f (shape_of s.graph i) ≡ true → is_live s'.graph i ≡ true → StandsOn s s' t granted f i

index_live : (g : Graph) (f i : NodeId) → is_index_of_shape f (shape_of g i) ≡ true → is_live g i ≡ true
index_live g f i h = plain_live g i (index_plain (shape_of g i) (index_of_index f (shape_of g i) h))

-- over one step
module _ (s s' : State) (law : IsLawful s) (law' : IsLawful s') (t : TxnId) (granted : Bool) (over : KeepsOver s s' t granted) where
  by_kept : ((f : NodeId) → KeepsIndexes s.graph s'.graph f) → AllStand s s' t.slot granted
  by_kept all f i h on =
      let still = index_still s.graph s'.graph f law.graph (all f) i h in
      record { index = still; intervals = λ key. same_interval s s' law law' t granted over f i key h still ((all f).intervals i key h) }

  -- a node is removed with its intervals
  by_drop : (n : NodeId) (movable : is_movable_shape (shape_of s.graph n) ≡ true) (free : is_in_use s.graph n ≡ false)
      → s'.graph ≡ without_branch s.graph n → AllStand s s' t.slot granted
  by_drop n movable free is f i h on =
      let g = s.graph in
      let there : is_live (without_branch g n) i ≡ true = ap (λ x. is_live x i) (sym is) ∙ on in
      let both = and_both _ _ (sym (left_live g n (live g law.graph n movable free) i) ∙ there) in
      let other = not_true (same_node n i) (λ e. no (sym (ap (λ b. not (b || is_child g n i)) e) ∙ both.1)) in
      let still : is_index_of_shape f (shape_of s'.graph i) ≡ true =
      ap (λ x. is_index_of_shape f (shape_of x i)) is ∙ ap (is_index_of_shape f) (left_shape g n i there) ∙ h in
      record {
        index = still;
        intervals = λ key.
            same_interval s s' law law' t granted over f i key h still
            (ap (λ x. interval_of x i key) is ∙ others_stay g law.graph n movable free f i key h other);
      }

  by_recut : (x y : NodeId) → IsRecut s s' x y → AllStand s s' t.slot granted
  by_recut x y cut f i h on =
      let still = index_listed_still s.graph s'.graph f law.graph (recut_list s s' law law' t granted over x y cut f) i h in
      record { index = still; intervals = λ key. recut_interval s s' law law' t granted over x y cut f i key h still }

  step_stand : (c : Command) (a : Answer) (told : Told) → Step s c a told s' → AllStand s s' t.slot granted
  step_stand c a told step = by (step_keeps s s' c a told law step)
    where
      by : KeepsOrDrops s.graph c s'.graph → AllStand s s' t.slot granted
      by (inl all) = by_kept all
      by (inr (inl (n, drops, is))) = by_drop n drops.movable drops.free is
      by (inr (inr of)) =
          ⊎_elim (λ e. by_kept (same_keeps s.graph s'.graph e)) (λ r. by_recut r.0 r.1 r.2) (recut_step s s' c a told law of step)

-- a node that lives before and after a run lived all along, since no birth is given twice
run_stand : (cs : List Command) (rs : List (Answer × Told)) (s s' : State) (t : TxnId) → IsLawful s → Run s cs rs s' → lives s t ≡ true
    → list_any (names t) cs ≡ false → AllStand s s' t.slot (told_granted t rs)
run_stand [] [] s s' t law run alive apart = subst (λ (x : State). AllStand s x t.slot false) (sym run)
    (by_kept s s law law t false (run_keeps [] [] s s t law refl alive refl) (same_keeps s.graph s.graph refl))
run_stand [] (r ∷ rs) s s' t law run alive apart = absurd run
run_stand (c ∷ cs) [] s s' t law run alive apart = absurd run
run_stand (c ∷ cs) (r ∷ rs) s s' t law run alive apart = λ f i h on.
    let mid = run.0 in
    let each = or_no (names t c) (list_any (names t) cs) apart in
    let law' = steps_keep_law s mid c r.0 r.1 law run.1 in
    let told = list_any (is_grant_to t) r.1 in
    let first = over_of_step s mid t r.1 (is_of_rows c) (one_step_keeps s law t alive r.0 r.1 mid law' c each.0 run.1) in
    let rest = run_keeps cs rs mid s' t law' run.2 first.alive each.1 in
    let born = birth_of s.graph law.graph i (index_live s.graph f i h) in
    let more = first.births in
    let between = rest.old i (omega arith) on in
    let a = step_stand s mid law law' t told first c r.0 r.1 run.1 f i h between in
    let b = run_stand cs rs mid s' t law' run.2 first.alive each.1 f i a.index on in
    record {
      index = b.index;
      intervals = λ key.
          stands_trans s mid s' t.slot told (told_granted t rs) (interval_of s.graph i key) (interval_of mid.graph i key) (interval_of s'.graph i key)
          (a.intervals key) (b.intervals key);
    }

module _ (s s' : State) (law : IsLawful s) (law' : IsLawful s') (t : TxnId) (granted : Bool) (over : KeepsOver s s' t granted)
    (stand : AllStand s s' t.slot granted) (f : NodeId) where
  intervals_stand : (is : List NodeId) (keys : List ℕ) → list_all (λ i. is_index_of_shape f (shape_of s.graph i)) is ≡ true
      → list_all (λ i. is_index_of_shape f (shape_of s'.graph i)) is ≡ true
      → AreEach (StandsFor s s' t.slot granted) (intervals_of s.graph is keys) (intervals_of s'.graph is keys)
  intervals_stand [] keys was are = tt
  intervals_stand (i ∷ is) [] was are = tt
  intervals_stand (i ∷ is) (key ∷ keys) was are =
      let a = and_both _ _ was in
      let b = and_both _ _ are in
      ((stand f i a.0 (index_live s'.graph f i b.0)).intervals key, intervals_stand is keys a.1 b.1)

  all_stand : (is : List NodeId) (keys : List ℕ) → AreIndexes s.graph f is → AreIndexes s'.graph f is
      → AreEach (StandsFor s s' t.slot granted) (f ∷ intervals_of s.graph is keys) (f ∷ intervals_of s'.graph is keys)
  all_stand is keys was are = (
    stands s s' law law' t granted over f (plain_live s.graph f (file_plain (shape_of s.graph f) was.file))
        (plain_live s'.graph f (file_plain (shape_of s'.graph f) are.file)),
    intervals_stand is keys was.indexes are.indexes,
  )

pub others_keep_by_indexes : OthersKeepByIndexes
others_keep_by_indexes s s' cs rs t law run alive apart =
    let law' = runs_keep_law s s' cs rs law run in
    let keeps = run_keeps cs rs s s' t law run alive apart in
    let stand = run_stand cs rs s s' t law run alive apart in
    record {
      same = λ quiet f is keys was are.
          each_same s s' t.slot (told_granted t rs) (f ∷ intervals_of s.graph is keys) (f ∷ intervals_of s'.graph is keys)
          (all_stand s s' law law' t (told_granted t rs) keeps stand f is keys was are) quiet;
      greater = λ f is keys was are.
          each_more s s' t.slot (told_granted t rs) (f ∷ intervals_of s.graph is keys) (f ∷ intervals_of s'.graph is keys)
          (all_stand s s' law law' t (told_granted t rs) keeps stand f is keys was are);
    }
