-- A lock's answer says which parent it needed, and the first request of a path. For Manager.lock_first and Manager.lock_path_telling.
use Rattle.std.specs.Prelude.{◌≡◌, ℕ, ◌+◌, Bool, true, false, ◌||◌, ◌==◌, List, [], ◌∷◌, ◌++◌, length, Option, Some, None, is_none, Ok, Err}
use Rattle.std.proofs.Common.{refl, sym, ap, ◌∙◌, inl, inr, subst}
use Rattle.gl_modes.proofs.Words.{and_both, cases_of, no as never, none_some}
use Rattle.gl_modes.specs.declared.node.NodeId.{NodeId}
use Rattle.gl_modes.specs.declared.refusal.Refusal.{Refusal}
use Rattle.gl_modes.specs.declared.refusal.Refusal.TheVariants as no
use Rattle.gl_model.specs.declared.answers.Locked.{Locked}
use Rattle.gl_model.specs.declared.answers.Locked.TheVariants as locked
use Rattle.gl_model.specs.declared.txn.TxnId.{TxnId}
use Rattle.gl_graph.specs.Refusals.{first_refusal, max_count, where_true}
use Rattle.gl_model.specs.Calls.{lock_tests}
use Rattle.gl_model.specs.Lawful.{IsLawful}
use Rattle.gl_model.specs.State.{State}
use Rattle.gl_model.specs.Tellings.{Told}
use Rattle.gl_steps.specs.declared.command.Answer.TheVariants as answer
use Rattle.gl_catalog.specs.Completes.{Completes}
use Rattle.gl_catalog.specs.Counters.{grants, refuses}
use Rattle.gl_catalog.specs.Manager.{ManagerView, state_of}
use Rattle.gl_catalog.specs.Paths.{Ask, AsksOnce, ClimbsTo, ComesFirst, KeepsBelow, KeepsPath, intention, lock_of}
use Rattle.gl_catalog.specs.Paths.{missing_parent, next_ask, parent_missed, parent_wanted}
use Rattle.gl_catalog.specs.Replies.{CallSteps, asking}
use Rattle.gl_steps.specs.Step.{Goes, Step, answer_of_lock}
use Rattle.gl_steps.specs.Tests.{is_cycle, lists_memory, may_lack_memory, refusal_of, worn}
use Rattle.gl_table.proofs.inside.Lists.{length-more}
use Rattle.gl_catalog.proofs.Climbing.{climb_on}
use Rattle.gl_catalog.proofs.KeptPaths.{path_climbs}
use Rattle.gl_catalog.proofs.OwnGrants.{GrantsOwn, grants_own}
use Rattle.gl_catalog.proofs.StillWanted.{below_kept}

not_refused : (x : Locked) (r : Refusal) → answer_of_lock x ≡ answer.Refused r → ⊥
not_refused (locked.Granted m) r e = cc
not_refused locked.Waiting r e = cc
not_refused locked.Victim r e = cc

refused_is : (q r : Refusal) → answer.Refused r ≡ answer.Refused q → q ≡ r
refused_is q r e = cc

-- a refusal for lack of a parent is no closed cycle
no_cycle : (q : Refusal) (p : NodeId) → missing_parent q ≡ Some p → (is_none (Some q) || is_cycle (Some q)) ≡ false
no_cycle (no.NeedParents n) p h = refl
no_cycle q p h = absurd (none_some h)

-- if lack of memory is permitted, no parent is lacking
memory_alone : (o : Option Refusal) → (is_none o || is_cycle o) ≡ true → parent_missed o ≡ None
memory_alone None h = refl
memory_alone (Some q) h = cases_of (missing_parent q) (λ none. none) (λ p e. absurd (never (sym (no_cycle q p e) ∙ h)))

module _ (s s' : State) (t : TxnId) (ask : Ask) (told : Told) where
  lacking_memory : may_lack_memory s (lock_of t ask) ≡ true → parent_wanted s t ask ≡ None
  lacking_memory h = memory_alone (refusal_of s (lock_of t ask)) (and_both (lists_memory s (lock_of t ask)) _ h).1

  -- a lock that is refused for lack of a parent needs that one, and one that is refused otherwise needs none
  pub refused_wants : (r : Refusal) → Step s (lock_of t ask) (answer.Refused r) told s' → parent_wanted s t ask ≡ missing_parent r
  refused_wants r (inl gone) = by (refusal_of s (lock_of t ask)) gone
    where
      by : (o : Option Refusal) → Goes s (lock_of t ask) o (answer.Refused r) told s' → parent_missed o ≡ missing_parent r
      by (Some q) un = ap missing_parent (refused_is q r un.answer_is)
      by None went = absurd (not_refused _ r (sym went.1.1))
  refused_wants r (inr memory) = lacking_memory memory.0 ∙ ap missing_parent (refused_is no.NoMemory r memory.1.answer_is)

  -- one that is not refused needs none
  pub locked_wants : (x : Locked) → Step s (lock_of t ask) (answer_of_lock x) told s' → parent_wanted s t ask ≡ None
  locked_wants x (inl gone) = by (refusal_of s (lock_of t ask)) gone
    where
      by : (o : Option Refusal) → Goes s (lock_of t ask) o (answer_of_lock x) told s' → parent_missed o ≡ None
      by (Some q) un = absurd (not_refused x q un.answer_is)
      by None went = refl
  locked_wants x (inr memory) = absurd (not_refused x no.NoMemory memory.1.answer_is)

-- how many parents a request needs first
abbrev pub wants : Option NodeId → ℕ
wants None = 0
wants (Some p) = 1

-- what the tests of the table say, if a command can be counted
pub looked : (s : State) (t : TxnId) (ask : Ask) → worn s ≡ None → parent_wanted s t ask ≡ parent_missed (first_refusal (lock_tests s t ask.0 ask.1))
looked s t ask counts = ap (λ o. parent_missed (first_refusal (o ∷ lock_tests s t ask.0 ask.1))) counts

-- a climb of so many steps, and one step more
abbrev pub ClimbsIn : State → TxnId → Ask → ℕ → Ask → Type 0
ClimbsIn s t ask k top = (path : List NodeId) × ClimbsTo s t ask path top × (length path ≡ k)

pub one_up : (s : State) (t : TxnId) (ask : Ask) (k : ℕ) (top : Ask) (p : NodeId) → ClimbsIn s t ask k top → parent_wanted s t top ≡ Some p
    → ClimbsIn s t ask (k + 1) (p, intention top.1)
one_up s t ask k top p h w = (h.0 ++ p ∷ [], climb_on s t ask h.0 top p h.1 w, length-more h.0 p ∙ ap (λ n. n + 1) h.2)

-- if no command can be counted, every lock is refused alike
full_refusal : (s : State) (t : TxnId) (ask : Ask) (q : Refusal) → worn s ≡ Some q → refusal_of s (lock_of t ask) ≡ Some q
full_refusal s t ask q e = ap (λ o. first_refusal (o ∷ lock_tests s t ask.0 ask.1)) e

full_no_cycle : (b : Bool) → (is_none (where_true b no.WornOut) || is_cycle (where_true b no.WornOut)) ≡ true → where_true b no.WornOut ≡ None
full_no_cycle true h = absurd (never h)
full_no_cycle false h = refl

refused_alike : (s s' : State) (t : TxnId) (a b : Ask) (q r : Refusal) (told : Told) → worn s ≡ Some q → Step s (lock_of t a) (answer.Refused r) told s'
    → Step s (lock_of t b) (answer.Refused r) told s'
refused_alike s s' t a b q r told e (inl gone) =
    inl (subst (λ o. Goes s (lock_of t b) o (answer.Refused r) told s') (sym (full_refusal s t b q e))
    (subst (λ o. Goes s (lock_of t a) o (answer.Refused r) told s') (full_refusal s t a q e) gone))
refused_alike s s' t a b q r told e (inr memory) = absurd (none_some (sym (full_no_cycle _ counts) ∙ e))
  where
    counts : (is_none (worn s) || is_cycle (worn s)) ≡ true
    counts = ap (λ o. is_none o || is_cycle o) (e ∙ sym (full_refusal s t a q e)) ∙ (and_both (lists_memory s (lock_of t a)) _ memory.0).1

-- and needs no parent
pub full_wants : (s : State) (t : TxnId) (ask : Ask) (q : Refusal) → worn s ≡ Some q → parent_wanted s t ask ≡ None
full_wants s t ask q e = ap parent_missed (full_refusal s t ask q e ∙ sym e) ∙ by (s.accepted == max_count)
  where
    by : (b : Bool) → parent_missed (where_true b no.WornOut) ≡ None
    by true = refl
    by false = refl

-- one that is not refused could be counted
not_full : (s s' : State) (t : TxnId) (ask : Ask) (x : Locked) (told : Told) → Step s (lock_of t ask) (answer_of_lock x) told s' → worn s ≡ None
not_full s s' t ask x told step = cases_of (worn s) (λ none. none) (λ q e. absurd (full q e step))
  where
    full : (q : Refusal) → worn s ≡ Some q → Step s (lock_of t ask) (answer_of_lock x) told s' → ⊥
    full q e (inl gone) = not_refused x q (subst (λ o. Goes s (lock_of t ask) o (answer_of_lock x) told s') (full_refusal s t ask q e) gone).answer_is
    full q e (inr memory) = not_refused x no.NoMemory memory.1.answer_is

-- the next request of a path with these nodes above, as lock_first makes it
module _ (m₀ m m' : ManagerView) (same : m ≡ m₀) (t : TxnId) (ask top : Ask) (above : List NodeId) (kept : KeepsPath (state_of m₀) t ask above)
    (is : top ≡ next_ask ask above) (told : Told) where
  abbrev s₀ : State
  s₀ = state_of m₀

  climbs : worn s₀ ≡ None → (path : List NodeId) × ClimbsTo s₀ t ask path top
  climbs counts = let to = path_climbs s₀ t ask above (kept counts) in (to.0, subst (ClimbsTo s₀ t ask to.0) (sym is) to.1)

  module _ (x : Locked) (step : CallSteps (state_of m) (lock_of t top) (asking told) (Ok x) (state_of m')) where
    locks₀ : CallSteps s₀ (lock_of t top) (asking told) (Ok x) (state_of m')
    locks₀ = subst (λ (v : ManagerView). CallSteps (state_of v) (lock_of t top) (asking told) (Ok x) (state_of m')) same step

    pub asked_ok : Completes (lock_of t top) m (asking told x) m' → AsksOnce t ask m₀ told (Ok (record { node = top.0; locked = x })) m'
    asked_ok done = (
      top,
      record {
        comes_first = record { climb = climbs (not_full s₀ (state_of m') t top x told locks₀); top = locked_wants s₀ (state_of m') t top told x locks₀ };
        step = locks₀;
        completes = λ went. subst (λ (v : ManagerView). Completes (lock_of t top) v (asking told x) m') same done;
        unchanged = λ refused. absurd (never (sym (goes x) ∙ refused));
      },
      refl,
    )
      where
        goes : (y : Locked) → refuses (answer_of_lock y) ≡ false
        goes (locked.Granted g) = refl
        goes locked.Waiting = refl
        goes locked.Victim = refl

    -- if it was granted, the nodes below are kept
    pub kept_below : IsLawful s₀ → grants (answer_of_lock x) ≡ true → KeepsBelow (state_of m') t ask above
    kept_below law grant =
        below_kept s₀ (state_of m') law t ask above
        (subst (λ (a : Ask). GrantsOwn s₀ (state_of m') t a.0) is (grants_own s₀ law t top (asking told x) (state_of m') locks₀ grant)) kept

  module _ (r : Refusal) (step : CallSteps (state_of m) (lock_of t top) (asking told) (Err r) (state_of m')) where
    step₀ : CallSteps s₀ (lock_of t top) (asking told) (Err r) (state_of m')
    step₀ = subst (λ (v : ManagerView). CallSteps (state_of v) (lock_of t top) (asking told) (Err r) (state_of m')) same step

    pub refused_for : parent_wanted s₀ t top ≡ missing_parent r
    refused_for = refused_wants s₀ (state_of m') t top [] r step₀

    refused_as : m' ≡ m → (first : Ask) → ComesFirst s₀ t ask first → Step s₀ (lock_of t first) (answer.Refused r) [] (state_of m') → (list : Told)
        → AsksOnce t ask m₀ list (Err r) m'
    refused_as err first comes refused list =
        (first, record { comes_first = comes; step = refused; completes = λ went. absurd (never (sym went)); unchanged = λ no. err ∙ same }, tt)

    pub asked_err : m' ≡ m → missing_parent r ≡ None → (list : Told) → AsksOnce t ask m₀ list (Err r) m'
    asked_err err none list =
        cases_of (worn s₀) (λ counts. refused_as err top (record { climb = climbs counts; top = refused_for ∙ none }) step₀ list)
        (λ q e. refused_as err ask (record { climb = ([], refl); top = full_wants s₀ t ask q e })
        (refused_alike s₀ (state_of m') t top ask q r [] e step₀) list)

-- a call that makes the first request is never refused for lack of a parent
pub none_missing : (t : TxnId) (ask : Ask) (m m' : ManagerView) (told : Told) (r : Refusal) → AsksOnce t ask m told (Err r) m' → missing_parent r ≡ None
none_missing t ask m m' told r h = sym (refused_wants (state_of m) (state_of m') t h.0 [] r h.1.step) ∙ h.1.comes_first.top
