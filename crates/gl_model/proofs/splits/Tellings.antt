-- Who waited for an interval is told of its split or merge, and nobody else is told of anything.
use Rattle.std.proofs.Common.{◌∙◌, ap, refl, sym}
use Rattle.std.specs.Prelude.{◌≡◌, ◌≢◌, ℕ, [], true, false, not, Option, Some, None, if◌then◌else◌}
use Rattle.gl_modes.proofs.NodeLemmas.{same_node-equal}
use Rattle.gl_modes.proofs.Words.{clash, not_true, split}
use Rattle.gl_modes.specs.Modes.{same_mode}
use Rattle.gl_modes.specs.Nodes.{same_node}
use Rattle.gl_modes.specs.declared.mode.Mode.{Mode}
use Rattle.gl_modes.specs.declared.mode.Mode.TheVariants.{NL, X}
use Rattle.gl_modes.specs.declared.node.NodeId.{NodeId}
use Rattle.gl_graph.specs.Graph.{Graph, is_live}
use Rattle.gl_model.proofs.law.Keeps.{apart}
use Rattle.gl_model.proofs.queues.Waiters.{among_by_filter}
use Rattle.gl_model.specs.Calls.{freed, none_but}
use Rattle.gl_model.specs.Lawful.{IsLawful}
use Rattle.gl_model.specs.State.{is_waiting_at, State, status_in, status_of, Txn, waits_at}
use Rattle.gl_model.specs.Tellings.{notice_of, told_from}
use Rattle.gl_model.specs.declared.answers.Notice.{Notice}
use Rattle.gl_model.specs.declared.answers.Notice.TheVariants as notice
use Rattle.gl_model.specs.declared.txn.Status.{Status}
use Rattle.gl_model.specs.declared.txn.Status.TheVariants.{Active, Condemned, Waiting}
use Rattle.gl_model.proofs.splits.Excluded.{others_nothing}
use Rattle.gl_model.proofs.splits.Recuts.{IsCut, IsJoined}
use Rattle.gl_model.proofs.splits.Split.{others_here}
use Rattle.gl_model.specs.Splits.{merged_by, split_by}

-- who waited for x, and is active, is told this word
module _ (s s' : State) (x : NodeId) (word : Notice) (u : ℕ) (freed_is : s'.txns u ≡ freed x (s.txns u))
    (says : (q : NodeId) (m : Mode) → status_of s u ≡ Some (Waiting q m) → q ≡ x → notice_of s' u q m (Some Active) ≡ Some word) where
  told_by : (st : Status) → status_of s u ≡ Some st → status_of s' u ≡ Some (none_but st x)
      → told_from s' u (Some st) ≡ (if waits_at (Some st) x then Some word else None)
  told_by Active was is = refl
  told_by Condemned was is = refl
  told_by (Waiting q m) was is =
      split (same_node q x)
      (λ e. ap (notice_of s' u q m) (is ∙ ap (λ b. Some (if b then Active else Waiting q m)) e) ∙ says q m was (same_node-equal q x e)
      ∙ sym (ap (λ b. if b then Some word else None) e))
      (λ e. ap (notice_of s' u q m) (is ∙ ap (λ b. Some (if b then Active else Waiting q m)) e) ∙ sym (ap (λ b. if b then Some word else None) e))

  pub told_freed : told_from s' u (status_of s u) ≡ (if is_waiting_at s u x then Some word else None)
  told_freed = by (s.txns u) refl
    where
      by : (o : Option Txn) → s.txns u ≡ o → told_from s' u (status_in o) ≡ (if waits_at (status_in o) x then Some word else None)
      by None e = refl
      by (Some y) e = told_by y.status (ap status_in e) (ap status_in freed_is ∙ ap (λ o. status_in (freed x o)) e)

nl_differs : (m : Mode) → m ≢ NL → same_mode NL m ≡ false
nl_differs NL h = absurd (h refl)
nl_differs m h = refl

pub split_told : (s : State) (law : IsLawful s) (t : ℕ) (i n : NodeId) (g' : Graph) (x : same_mode (s.held t i) X ≡ true) (cut : IsCut s.graph g' i n)
    → status_of s t ≡ Some Active → (u : ℕ)
    → told_from (split_by s t i g' n) u (status_of s u) ≡ (if is_waiting_at s u i then Some notice.Moved else None)
split_told s law t i n g' x cut active u = told_freed s (split_by s t i g' n) i notice.Moved u refl says
  where
    says : (q : NodeId) (m : Mode) → status_of s u ≡ Some (Waiting q m) → q ≡ i → notice_of (split_by s t i g' n) u q m (Some Active) ≡ Some notice.Moved
    says q m st e =
        let was = law.waits_intend u q m st in
        let live = law.waits_live u q (among_by_filter u (u, m) [] (s.queue q) (law.one_wait u q m st)) in
        let ne : u ≢ t = λ same. apart (sym active ∙ ap (status_of s) (sym same) ∙ st) in
        let other : same_node q n ≡ false = not_true (same_node q n) (λ k. clash (ap (is_live s.graph) (sym (same_node-equal q n k)) ∙ live) cut.fresh) in
        let none : (split_by s t i g' n).held u q ≡ NL =
        others_here s law t i n g' x cut u q other ∙ ap (s.held u) e ∙ others_nothing s law t u i x ne in
        ap (λ b. if not b then Some notice.Gone
        else (if same_mode ((split_by s t i g' n).held u q) m then Some (notice.Granted q m) else Some notice.Moved)) (ap (is_live g') e ∙ cut.old)
        ∙ ap (λ b. if b then Some (notice.Granted q m) else Some notice.Moved) (ap (λ a. same_mode a m) none ∙ nl_differs m was.1)

pub merge_told : (s : State) (i j : NodeId) (g' : Graph) → IsJoined s.graph g' i j → (u : ℕ)
    → told_from (merged_by s j g') u (status_of s u) ≡ (if is_waiting_at s u j then Some notice.Gone else None)
merge_told s i j g' joined u =
    told_freed s (merged_by s j g') j notice.Gone u refl
    (λ q m st e. ap (λ b. if not b then Some notice.Gone
    else (if same_mode ((merged_by s j g').held u q) m then Some (notice.Granted q m) else Some notice.Moved)) (ap (is_live g') e ∙ joined.gone))
