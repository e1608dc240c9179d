-- Tries of paths: each is first on its way, changes nothing but what its transaction holds, and is a command of a run. For Delivery.try_path.
use Rattle.std.specs.Prelude.{◌≡◌, ◌≢◌, ◌⊎◌, ℕ, zero, suc, ◌+◌, ◌<◌, ◌≤◌, Bool, true, false, ◌||◌, ◌&&◌, ◌==◌, not, List, [], ◌∷◌, ◌++◌, Option, Some, None}
use Rattle.std.specs.Prelude.{is_none, unwrap_or, IfErr, IfOk, OnErr, OnOk, Result, Ok, Err, if◌then◌else◌}
use Rattle.std.specs.List.{AllByRecursion}
use Rattle.std.proofs.Common.{refl, sym, ap, ◌∙◌, inl, inr, subst, ⊎_elim, arith}
use mathlib.Core.Bool.{true≢false}
use Rattle.gl_modes.proofs.ModeLemmas.{at_least-refl, at_least-transitive, supremum-above, supremum-above_right}
use Rattle.gl_modes.proofs.NodeLemmas.{same_node-equal, same_node-refl}
use Rattle.gl_modes.proofs.Words.{and_both, cases_of, no as never, none_some, number_same, some_is, split}
use Rattle.gl_modes.specs.declared.mode.Mode.{Mode}
use Rattle.gl_modes.specs.declared.node.NodeId.{NodeId}
use Rattle.gl_modes.specs.declared.refusal.Refusal.{Refusal}
use Rattle.gl_modes.specs.declared.refusal.Refusal.TheVariants as no
use Rattle.gl_modes.specs.Modes.{is_at_least}
use Rattle.gl_modes.specs.Nodes.{same_node}
use Rattle.gl_graph.specs.Refusals.{first_refusal, max_count, where_true}
use Rattle.gl_graph.specs.Routes.{IsRoute}
use Rattle.gl_model.specs.declared.txn.Status.{Status}
use Rattle.gl_model.specs.declared.txn.Status.TheVariants.{Active, Condemned, Waiting}
use Rattle.gl_model.specs.declared.txn.TxnId.{TxnId}
use Rattle.gl_model.specs.Calls.{accepted_once, condemned_test, granted, need_parents, no_txn, try_tests, waiting_test, wanted, would_block}
use Rattle.gl_model.specs.Lawful.{IsLawful}
use Rattle.gl_model.specs.State.{State, Txn, is_write, live_by, lives, status_in, status_of, waits_at}
use Rattle.gl_model.specs.Tellings.{Told}
use Rattle.gl_steps.specs.declared.command.Answer.{Answer}
use Rattle.gl_steps.specs.declared.command.Answer.TheVariants as answer
use Rattle.gl_steps.specs.Promises.{waits_on}
use Rattle.gl_steps.specs.Step.{Goes, Step, Unchanged}
use Rattle.gl_steps.specs.Tests.{is_cycle, lists_memory, may_lack_memory, refusal_of, tests_of, worn}
use Rattle.gl_steps.proofs.NotRefused.{active_is, txn_lives}
use Rattle.gl_steps.proofs.OneStep.{all_none}
use Rattle.gl_steps.proofs.StepsKeepLaw.{steps_keep_law}
use Rattle.gl_catalog.specs.Counters.{grants, refuses}
use Rattle.gl_catalog.specs.Manager.{ManagerView, state_of}
use Rattle.gl_catalog.specs.Paths.{Ask, ClimbsTo, ComesFirst, KeepsBelow, KeepsPath}
use Rattle.gl_catalog.specs.Paths.{lock_of, missing_parent, next_ask, parent_missed, parent_wanted, path_tests}
use Rattle.gl_catalog.specs.Replies.{CallSteps, said, took}
use Rattle.gl_catalog.specs.Savepoints.{back_tests, count_since, worn_for}
use Rattle.gl_catalog.proofs.Climbing.{climb_route, first_stays, plain_tests, stays_at}
use Rattle.gl_catalog.proofs.KeptPaths.{path_climbs}
use Rattle.gl_catalog.proofs.OwnGrants.{GrantsOwn}
use Rattle.gl_catalog.proofs.PathSteps.{full_wants}
use Rattle.gl_catalog.proofs.StillWanted.{below_kept}
use Rattle.gl_rows.specs.Releasing.{GoesBackTo}
use Rattle.gl_rows.specs.Rows.{RegistryView}
use Rattle.gl_rows.specs.Serving.{ServesBy}
use Rattle.gl_rows.proofs.Tidied.{IsAlone, served_alone}
use Rattle.gl_wakes.specs.Boxes.{Slot}
use Rattle.gl_wakes.specs.Wakes.{HasEnded}
use Rattle.gl_wakes.proofs.Waking.{ended_none}
use Rattle.gl_slots.specs.Slots.{HasNoSlot}
use Rattle.gl_slots.specs.declared.slots.Slots.{Slots}
use Rattle.gl_waiting.specs.declared.tries.Keep.{Keep}
use Rattle.gl_waiting.specs.declared.tries.Tried.{Tried}
use Rattle.gl_waiting.specs.declared.tries.Tried.TheVariants as tried
use Rattle.gl_waiting.specs.Delivering.{ComesToNothing, Delivered, DeliveryView, unlocking}
use Rattle.gl_waiting.specs.Going.{IsRunOf}
use Rattle.gl_waiting.specs.Tries.{AnswersTry, GrantedAt, HasManager, LowersTo, HoldsAsTried, IsTried, LeavesTries, NamesLast, OnlyGrants, RollsBack}
use Rattle.gl_waiting.specs.Tries.{TriesFirst, TriesOnce, TriesPath, TriesUp, climbs_down, gives_back}
use Rattle.gl_waiting.specs.Tries.{last_answer, lock_count, parent_missing, tried_as, try_of}
use Rattle.gl_waiting.proofs.Delivered.{with_boxes}
use Rattle.gl_waiting.proofs.Runs.{own_one, own_then}

-- One try, and the lock of the same node.

first_after : (xs ys : List (Option Refusal)) → first_refusal xs ≡ None → first_refusal (xs ++ ys) ≡ first_refusal ys
first_after [] ys h = refl
first_after (None ∷ xs) ys h = first_after xs ys h
first_after (Some r ∷ xs) ys h = absurd (none_some (sym h))

alone : (a : Option Refusal) → first_refusal (a ∷ []) ≡ a
alone None = refl
alone (Some r) = refl

refused_is : (q r : Refusal) → answer.Refused r ≡ answer.Refused q → r ≡ q
refused_is q r e = cc

granted_is : (m k : Mode) → answer.Granted m ≡ answer.Granted k → m ≡ k
granted_is m k e = cc

not_refused : (m : Mode) (r : Refusal) → answer.Granted m ≡ answer.Refused r → ⊥
not_refused m r e = cc

-- a refusal that names a parent is none for which memory may be wanting
no_cycle : (q : Refusal) (p : NodeId) → missing_parent q ≡ Some p → (is_none (Some q) || is_cycle (Some q)) ≡ false
no_cycle (no.NeedParents n) p h = refl
no_cycle q p h = absurd (none_some h)

memory_alone : (o : Option Refusal) → (is_none o || is_cycle o) ≡ true → parent_missed o ≡ None
memory_alone None h = refl
memory_alone (Some q) h = cases_of (missing_parent q) (λ none. none) (λ p e. absurd (never (sym (no_cycle q p e) ∙ h)))

block_wants : (b : Bool) → parent_missed (where_true b no.WouldBlock) ≡ None
block_wants true = refl
block_wants false = refl

module _ (s : State) (t : TxnId) (ask : Ask) where
  -- what refuses the lock refuses the try
  as_lock : (q : Refusal) → refusal_of s (lock_of t ask) ≡ Some q → refusal_of s (try_of t ask) ≡ Some q
  as_lock q e = first_stays (tests_of s (lock_of t ask)) (would_block s t.slot ask.0 ask.1 ∷ []) q e

  -- and nothing else does but that it would block
  or_blocks : refusal_of s (lock_of t ask) ≡ None → refusal_of s (try_of t ask) ≡ would_block s t.slot ask.0 ask.1
  or_blocks e = first_after (tests_of s (lock_of t ask)) (would_block s t.slot ask.0 ask.1 ∷ []) e ∙ alone (would_block s t.slot ask.0 ask.1)

  -- a try wants the parent that the lock wants
  pub wants_as_lock : parent_wanted s t ask ≡ parent_missed (refusal_of s (try_of t ask))
  wants_as_lock =
      cases_of (refusal_of s (lock_of t ask)) (λ none. ap parent_missed none ∙ sym (ap parent_missed (or_blocks none) ∙ block_wants _))
      (λ q some. ap parent_missed some ∙ sym (ap parent_missed (as_lock q some)))

  -- a try that is refused for lack of a parent wants that one, and one that is refused otherwise wants none
  pub refused_wants : (r : Refusal) (told : Told) (s' : State) → Step s (try_of t ask) (answer.Refused r) told s' → parent_wanted s t ask ≡ missing_parent r
  refused_wants r told s' (inl gone) = wants_as_lock ∙ by (refusal_of s (try_of t ask)) gone
    where
      by : (o : Option Refusal) → Goes s (try_of t ask) o (answer.Refused r) told s' → parent_missed o ≡ missing_parent r
      by (Some q) un = ap missing_parent (sym (refused_is q r un.answer_is))
      by None went = absurd (not_refused _ r (sym went.1.0))
  refused_wants r told s' (inr memory) =
      wants_as_lock ∙ memory_alone _ (and_both (lists_memory s (try_of t ask)) _ memory.0).1
      ∙ ap missing_parent (sym (refused_is no.NoMemory r memory.1.answer_is))

  -- what a try leaves that is granted
  pub record Took (m : Mode) (s' : State) : Type 0 where
    pub passed : refusal_of s (try_of t ask) ≡ None
    pub mode : m ≡ wanted s t.slot ask.0 ask.1
    pub after : s' ≡ accepted_once (granted s t.slot ask.0 ask.1)

  pub took_is : (m : Mode) (told : Told) (s' : State) → Step s (try_of t ask) (answer.Granted m) told s' → Took m s'
  took_is m told s' (inr memory) = absurd (not_refused m no.NoMemory memory.1.answer_is)
  took_is m told s' (inl gone) = by (refusal_of s (try_of t ask)) refl gone
    where
      by : (o : Option Refusal) → refusal_of s (try_of t ask) ≡ o → Goes s (try_of t ask) o (answer.Granted m) told s' → Took m s'
      by (Some q) e un = absurd (not_refused m q un.answer_is)
      by None e went = record { passed = e; mode = granted_is m _ went.1.0; after = went.2 ∙ ap accepted_once went.1.2 }

  module _ (m : Mode) (s' : State) (it : Took m s') where
    pub took_wants : parent_wanted s t ask ≡ None
    took_wants = wants_as_lock ∙ ap parent_missed it.passed

    pub took_counted : worn s ≡ None
    took_counted = (all_none (tests_of s (try_of t ask)) it.passed).0

    same_slot : (t.slot == t.slot) ≡ true
    same_slot = number_same t.slot t.slot refl

    -- the mode that is held then
    pub took_held : s'.held t.slot ask.0 ≡ m
    took_held =
        ap (λ (x : State). x.held t.slot ask.0) it.after
        ∙ ap (λ b. if b && same_node ask.0 ask.0 then wanted s t.slot ask.0 ask.1 else s.held t.slot ask.0) same_slot
        ∙ ap (λ b. if b then wanted s t.slot ask.0 ask.1 else s.held t.slot ask.0) (same_node-refl ask.0) ∙ sym it.mode

    pub took_least : is_at_least m ask.1 ≡ true
    took_least = ap (λ x. is_at_least x ask.1) it.mode ∙ supremum-above_right (s.held t.slot ask.0) ask.1

    took_more : is_at_least (s'.held t.slot ask.0) (s.held t.slot ask.0) ≡ true
    took_more = ap (λ x. is_at_least x (s.held t.slot ask.0)) (took_held ∙ it.mode) ∙ supremum-above (s.held t.slot ask.0) ask.1

    elsewhere : (q : NodeId) → same_node q ask.0 ≡ false → s'.held t.slot q ≡ s.held t.slot q
    elsewhere q other =
        ap (λ (x : State). x.held t.slot q) it.after
        ∙ ap (λ b. if b && same_node q ask.0 then wanted s t.slot ask.0 ask.1 else s.held t.slot q) same_slot
        ∙ ap (λ b. if b then wanted s t.slot ask.0 ask.1 else s.held t.slot q) other

    -- it changes nothing else
    pub took_only : OnlyGrants t.slot s s'
    took_only = record {
      graph = ap (λ (x : State). x.graph) it.after;
      txns = ap (λ (x : State). x.txns) it.after;
      queue = ap (λ (x : State). x.queue) it.after;
      others = λ u n other. ap (λ (x : State). x.held u n) it.after
          ∙ ap (λ b. if b && same_node n ask.0 then wanted s t.slot ask.0 ask.1 else s.held u n) other;
      more = λ n. split (same_node n ask.0)
          (λ e. subst (λ q. is_at_least (s'.held t.slot q) (s.held t.slot q) ≡ true) (sym (same_node-equal n ask.0 e)) took_more)
          (λ e. subst (λ x. is_at_least x (s.held t.slot n) ≡ true) (sym (elsewhere n e)) (at_least-refl (s.held t.slot n)));
    }

    -- its transaction is active
    pub took_active : (no_txn s t ≡ None) × (waiting_test (status_of s t.slot) ≡ None) × (condemned_test (status_of s t.slot) ≡ None)
    took_active = let all = all_none (tests_of s (try_of t ask)) it.passed in (all.1.0, all.1.1.0, all.1.1.1.0)

    pub took_own : GrantsOwn s s' t ask.0
    took_own =
        let only = took_only in
        let on = took_active in
        record {
          counted = took_counted;
          graph = only.graph;
          alive = ap (λ (x : State). lives x t) it.after ∙ txn_lives s t on.0;
          active = ap (λ (x : State). status_of x t.slot) it.after ∙ active_is s t on.0 on.1 on.2;
          more = took_more;
          elsewhere = elsewhere;
        }

-- a try that the registry serves is answered by a grant or a refusal, tells nobody, and leaves the rows
pub record Served (v : RegistryView) (t : TxnId) (ask : Ask) (o : Option Answer) (told : Told) (v' : RegistryView) : Type 0 where
  pub result : Result Mode Refusal
  pub answered : o ≡ Some (said took result).0
  pub step : Step (state_of v.manager) (try_of t ask) (said took result).0 [] (state_of v'.manager)
  pub untold : told ≡ []
  pub rows : v'.rows ≡ v.rows
  pub refused : OnErr result (v' ≡ v)

module _ (v v' : RegistryView) (t : TxnId) (ask : Ask) (told : Told) where
  answer_of : (a : Answer) → Step (state_of v.manager) (try_of t ask) a told (state_of v'.manager) → ((m : Mode) × (a ≡ answer.Granted m) × (told ≡ []))
      ⊎ ((r : Refusal) × Unchanged (state_of v.manager) a told (state_of v'.manager) (answer.Refused r))
  answer_of a (inr memory) = inr (no.NoMemory, memory.1)
  answer_of a (inl gone) = by (refusal_of (state_of v.manager) (try_of t ask)) gone
    where
      by : (o : Option Refusal) → Goes (state_of v.manager) (try_of t ask) o a told (state_of v'.manager) → ((m : Mode) × (a ≡ answer.Granted m) × (told ≡ []))
          ⊎ ((r : Refusal) × Unchanged (state_of v.manager) a told (state_of v'.manager) (answer.Refused r))
      by (Some r) un = inr (r, un)
      by None went = inl (_, went.1.0, went.1.1)

  pub served : (o : Option Answer) → ServesBy false v (try_of t ask) o told v' → Served v t ask o told v'
  served o h = by (answer_of h.0 alone.applies.step)
    where
      alone : IsAlone v (try_of t ask) h.0 told v'
      alone = served_alone v v' (try_of t ask) h.0 told refl h.2

      by : ((m : Mode) × (h.0 ≡ answer.Granted m) × (told ≡ []))
          ⊎ ((r : Refusal) × Unchanged (state_of v.manager) h.0 told (state_of v'.manager) (answer.Refused r)) → Served v t ask o told v'
      by (inl x) = record {
        result = Ok x.0;
        answered = h.1 ∙ ap (λ (a : Answer). Some a) x.1;
        step = subst (λ (a : Answer). Step (state_of v.manager) (try_of t ask) a [] (state_of v'.manager)) x.1
            (subst (λ (l : Told). Step (state_of v.manager) (try_of t ask) h.0 l (state_of v'.manager)) x.2 alone.applies.step);
        untold = x.2;
        rows = alone.rows;
        refused = tt;
      }
      by (inr x) =
          let is = alone.applies.same (ap (λ (s : State). s.accepted) x.1.same) in
          record {
            result = Err x.0;
            answered = h.1 ∙ ap (λ (a : Answer). Some a) x.1.answer_is;
            step = subst (λ (a : Answer). Step (state_of v.manager) (try_of t ask) a [] (state_of v'.manager)) x.1.answer_is
                (subst (λ (l : Told). Step (state_of v.manager) (try_of t ask) h.0 l (state_of v'.manager)) x.1.nobody_told alone.applies.step);
            untold = x.1.nobody_told;
            rows = alone.rows;
            refused = λ i. record { manager = is i; rows = alone.rows i };
          }

-- so its answer is one of a try
pub answers_try : (v v' : RegistryView) (t : TxnId) (ask : Ask) (o : Option Answer) (told : Told) → Served v t ask o told v' → AnswersTry o
answers_try v v' t ask o told h = subst AnswersTry (sym h.answered) (by h.result)
  where
    by : (r : Result Mode Refusal) → AnswersTry (Some (said took r).0)
    by (Ok m) = tt
    by (Err r) = tt

same_result : (a b : Result Mode Refusal) → (said took a).0 ≡ (said took b).0 → a ≡ b
same_result (Ok m) (Ok k) e = ap (λ (x : Mode). Ok x) (granted_is m k e)
same_result (Err r) (Err q) e = ap (λ (x : Refusal). Err x) (refused_is q r e)
same_result (Ok m) (Err r) e = absurd (not_refused m r e)
same_result (Err r) (Ok m) e = absurd (not_refused m r (sym e))

-- what a delivery does by it
pub record TriesAt (d : DeliveryView) (t : TxnId) (ask : Ask) (result : Result Mode Refusal) (told : Told) (d' : DeliveryView) : Type 0 where
  pub step : CallSteps (state_of d.manager) (try_of t ask) took result (state_of d'.manager)
  pub refused : OnErr result (d' ≡ d)
  pub manager : HasManager d d'.manager d'
  pub untold : told ≡ []

pub tries_at : (v v' : RegistryView) (boxes : List Slot) (t : TxnId) (ask : Ask) (o : Option Answer) (told : Told) (result : Result Mode Refusal)
    → Served v t ask o told v' → o ≡ Some (said took result).0 → TriesAt (with_boxes v boxes) t ask result told (with_boxes v' boxes)
tries_at v v' boxes t ask o told result h e =
    subst (λ (r : Result Mode Refusal). TriesAt (with_boxes v boxes) t ask r told (with_boxes v' boxes))
    (same_result h.result result (some_is (sym h.answered ∙ e)))
    (record {
      step = by h.result h.step;
      refused = refused h.result h.refused;
      manager = λ i. record { manager = v'.manager; rows = h.rows i; boxes = boxes };
      untold = h.untold;
    })
  where
    by : (r : Result Mode Refusal) → Step (state_of v.manager) (try_of t ask) (said took r).0 [] (state_of v'.manager)
        → CallSteps (state_of v.manager) (try_of t ask) took r (state_of v'.manager)
    by (Ok m) step = step
    by (Err r) step = step

    refused : (r : Result Mode Refusal) → OnErr r (v' ≡ v) → OnErr r (with_boxes v' boxes ≡ with_boxes v boxes)
    refused (Ok m) same = tt
    refused (Err r) same = ap (λ (x : RegistryView). with_boxes x boxes) same

-- The first try of a path.

-- where no command can be counted every try is refused alike
worn_is : (s : State) (q : Refusal) → worn s ≡ Some q → q ≡ no.WornOut
worn_is s q e = by (s.accepted == max_count) e
  where
    by : (b : Bool) → where_true b no.WornOut ≡ Some q → q ≡ no.WornOut
    by true h = sym (some_is h)
    by false h = absurd (none_some h)

full_refusal : (s : State) (t : TxnId) (ask : Ask) → worn s ≡ Some no.WornOut → refusal_of s (try_of t ask) ≡ Some no.WornOut
full_refusal s t ask e = ap (λ o. first_refusal (o ∷ try_tests s t ask.0 ask.1)) e

full_answer : (s s' : State) (t : TxnId) (ask : Ask) (a : Answer) (told : Told) → worn s ≡ Some no.WornOut → Step s (try_of t ask) a told s'
    → Unchanged s a told s' (answer.Refused no.WornOut)
full_answer s s' t ask a told e (inl gone) = subst (λ o. Goes s (try_of t ask) o a told s') (full_refusal s t ask e) gone
full_answer s s' t ask a told e (inr memory) = absurd (never (sym none ∙ memory.0))
  where
    none : may_lack_memory s (try_of t ask) ≡ false
    none = ap (λ o. lists_memory s (try_of t ask) && (is_none o || is_cycle o)) (full_refusal s t ask e) ∙ and_false (lists_memory s (try_of t ask))
      where
        and_false : (b : Bool) → (b && false) ≡ false
        and_false true = refl
        and_false false = refl

full_step : (s : State) (t : TxnId) (ask : Ask) → worn s ≡ Some no.WornOut → Step s (try_of t ask) (answer.Refused no.WornOut) [] s
full_step s t ask e =
    inl (subst (λ o. Goes s (try_of t ask) o (answer.Refused no.WornOut) [] s) (sym (full_refusal s t ask e))
    (record { answer_is = refl; nobody_told = refl; same = refl }))

-- what a refusal of the last try says
names_last : (n : NodeId) (r : Refusal) (first : Ask) → n ≡ first.0 → missing_parent r ≡ None → NamesLast (tried_as n (Err r)) first
names_last n no.WouldBlock first e none = e
names_last n r first e none = (λ h. cc h, none)

module _ (m m' : ManagerView) (t : TxnId) (ask top : Ask) (above : List NodeId) (kept : KeepsPath (state_of m) t ask above)
    (is : top ≡ next_ask ask above) where
  abbrev s : State
  s = state_of m

  climbs : worn s ≡ None → (way : List NodeId) × ClimbsTo s t ask way top
  climbs counts = let to = path_climbs s t ask above (kept counts) in (to.0, subst (ClimbsTo s t ask to.0) (sym is) to.1)

  once_ok : (k : Mode) → Step s (try_of t top) (answer.Granted k) [] (state_of m') → TriesOnce t ask m top.0 (Ok k) m'
  once_ok k step =
      let it = took_is s t top k [] (state_of m') step in (
        top,
        record {
          comes_first = record { climb = climbs (took_counted s t top k (state_of m') it); top = took_wants s t top k (state_of m') it };
          step = step;
          unchanged = λ refused. absurd (never refused);
        },
        tt,
        refl,
      )

  once_err : (r : Refusal) → missing_parent r ≡ None → m' ≡ m → Step s (try_of t top) (answer.Refused r) [] (state_of m') → TriesOnce t ask m top.0 (Err r) m'
  once_err r none same step =
      cases_of (worn s)
      (λ counts. (
        top,
        record {
          comes_first = record { climb = climbs counts; top = refused_wants s t top r [] (state_of m') step ∙ none };
          step = step;
          unchanged = λ refused. same;
        },
        names_last top.0 r top refl none,
        tt,
      ))
      (λ q e. full (e ∙ ap (λ (x : Refusal). Some x) (worn_is s q e)))
    where
      full : worn s ≡ Some no.WornOut → TriesOnce t ask m top.0 (Err r) m'
      full e =
          let un = full_answer s (state_of m') t top (answer.Refused r) [] e step in
          subst (λ (x : Refusal). TriesOnce t ask m top.0 (Err x) m') (sym (refused_is no.WornOut r un.answer_is)) (
            ask,
            record {
              comes_first = record { climb = ([], refl); top = full_wants s t ask no.WornOut e };
              step = subst (λ (x : State). Step s (try_of t ask) (answer.Refused no.WornOut) [] x) (sym un.same) (full_step s t ask e);
              unchanged = λ refused. same;
            },
            (λ h. cc h, refl),
            tt,
          )

  pub once : (result : Result Mode Refusal) → parent_missing result ≡ None → OnErr result (m' ≡ m)
      → CallSteps s (try_of t top) took result (state_of m') → TriesOnce t ask m top.0 result m'
  once (Ok k) none same step = once_ok k step
  once (Err r) none same step = once_err r none same step

  -- where it was granted, the nodes below are kept
  pub kept_below : IsLawful s → (result : Result Mode Refusal) → CallSteps s (try_of t top) took result (state_of m')
      → IfOk result (λ k. KeepsBelow (state_of m') t ask above)
  kept_below law (Err r) step = tt
  kept_below law (Ok k) step =
      below_kept s (state_of m') law t ask above
      (subst (λ (a : Ask). GrantsOwn s (state_of m') t a.0) is (took_own s t top k (state_of m') (took_is s t top k [] (state_of m') step))) kept

  -- one that is refused for lack of a parent names the one that it wants
  pub wants_parent : (result : Result Mode Refusal) (p : NodeId) → parent_missing result ≡ Some p → CallSteps s (try_of t top) took result (state_of m')
      → parent_wanted s t (next_ask ask above) ≡ Some p
  wants_parent (Ok k) p e step = absurd (none_some e)
  wants_parent (Err r) p e step = ap (parent_wanted s t) (sym is) ∙ refused_wants s t top r [] (state_of m') step ∙ e

  -- and one that wants none is not refused so
  pub wants_none : (result : Result Mode Refusal) → parent_wanted s t (next_ask ask above) ≡ None → CallSteps s (try_of t top) took result (state_of m')
      → parent_missing result ≡ None
  wants_none (Ok k) e step = refl
  wants_none (Err r) e step = sym (refused_wants s t top r [] (state_of m') step) ∙ ap (parent_wanted s t) is ∙ e

-- Paths put together from their tries.

-- what a path was at its beginning, once it goes on from a later manager
abbrev pub LeadsUp : TxnId → Ask → ManagerView → ManagerView → Type 0
LeadsUp t ask m₀ m = (k : ℕ) (last : Ask) (a : Answer) (m' : ManagerView) → TriesUp k t ask m last a m' → (j : ℕ) × TriesUp j t ask m₀ last a m'

-- it begins where it is
pub at_once : (t : TxnId) (ask : Ask) (m : ManagerView) → LeadsUp t ask m m
at_once t ask m k last a m' path = (k, path)

-- a try that was granted above was of the first node
down_first : (node n : NodeId) (first : Ask) (result : Result Mode Refusal) → GrantedAt n result first → climbs_down node n (said took result).0 ≡ true
    → climbs_down node first.0 (said took result).0 ≡ true
down_first node n first (Ok k) at on = ap (λ x. climbs_down node x (answer.Granted k)) (sym at) ∙ on
down_first node n first (Err r) at on = absurd (never on)

not_down : (node n : NodeId) (first : Ask) (result : Result Mode Refusal) → GrantedAt n result first → climbs_down node n (said took result).0 ≡ false
    → climbs_down node first.0 (said took result).0 ≡ false
not_down node n first (Ok k) at off = ap (λ x. climbs_down node x (answer.Granted k)) (sym at) ∙ off
not_down node n first (Err r) at off = refl

last_is : (n : NodeId) (result : Result Mode Refusal) → (said took result).0 ≡ last_answer (tried_as n result)
last_is n (Ok k) = refl
last_is n (Err no.WouldBlock) = refl
last_is n (Err r) = refl

-- a node above was granted, so that less can be counted
down_counts : (t : TxnId) (ask first : Ask) (m m' : ManagerView) (a : Answer) → grants a ≡ true → TriesFirst t ask m first a m' → m'.accepted ≡ m.accepted + 1
down_counts t ask first m m' (answer.Granted k) on tries =
    ap (λ (x : State). x.accepted) (took_is (state_of m) t first k [] (state_of m') tries.step).after
down_counts t ask first m m' (answer.Refused r) on tries = absurd (never on)
down_counts t ask first m m' answer.Done on tries = absurd (never on)
down_counts t ask first m m' (answer.Node n) on tries = absurd (never on)
down_counts t ask first m m' (answer.Begun u) on tries = absurd (never on)
down_counts t ask first m m' answer.Waiting on tries = absurd (never on)
down_counts t ask first m m' answer.Victim on tries = absurd (never on)
down_counts t ask first m m' (answer.Escalated x) on tries = absurd (never on)
down_counts t ask first m m' (answer.Mode k) on tries = absurd (never on)
down_counts t ask first m m' (answer.Effect x) on tries = absurd (never on)

module _ (t : TxnId) (ask : Ask) (m₀ m m' : ManagerView) (n : NodeId) (result : Result Mode Refusal) where
  pub one_on : LeadsUp t ask m₀ m → TriesOnce t ask m n result m' → climbs_down ask.0 n (said took result).0 ≡ true → LeadsUp t ask m₀ m'
  one_on leads tries on k last a m'' path =
      leads (suc k) last a m'' (tries.0, (said took result).0, m', tries.1, down_first ask.0 n tries.0 result tries.3 on, path)

  pub ends : LeadsUp t ask m₀ m → TriesOnce t ask m n result m' → climbs_down ask.0 n (said took result).0 ≡ false → TriesPath t ask m₀ (tried_as n result) m'
  ends leads tries off =
      let whole = leads zero tries.0 (said took result).0 m' (tries.1, not_down ask.0 n tries.0 result tries.3 off) in
      (whole.0, tries.0, subst (λ (a : Answer). TriesUp whole.0 t ask m₀ tries.0 a m') (last_is n result) whole.1, tries.2)

  pub on_counts : TriesOnce t ask m n result m' → climbs_down ask.0 n (said took result).0 ≡ true → m'.accepted ≡ m.accepted + 1
  on_counts tries on = down_counts t ask tries.0 m m' (said took result).0 (and_both _ _ on).0 tries.1

  -- what is known above after the descent
  pub lowered : (above above' : List NodeId) → climbs_down ask.0 n (said took result).0 ≡ true → IfOk result (λ k. KeepsBelow (state_of m') t ask above)
      → LowersTo (is_write ask.1) above above' → KeepsPath (state_of m') t ask above'
  lowered above above' on below = by (is_write ask.1) refl
    where
      empty : above' ≡ [] → KeepsPath (state_of m') t ask above'
      empty is = subst (KeepsPath (state_of m') t ask) (sym is) (λ counts. tt)

      kept : (r : Result Mode Refusal) → climbs_down ask.0 n (said took r).0 ≡ true → IfOk r (λ k. KeepsBelow (state_of m') t ask above)
          → KeepsBelow (state_of m') t ask above
      kept (Ok k) e h = h
      kept (Err r) e h = absurd (never e)

      by : (b : Bool) → is_write ask.1 ≡ b → LowersTo b above above' → KeepsPath (state_of m') t ask above'
      by true write (inl none) = empty none.1
      by true write (inr one) = kept result on below above' one.0 one.1 write
      by false write none = empty none

-- one manager after the other
pub manager_then : (d mid d' : DeliveryView) → HasManager d mid.manager mid → HasManager mid d'.manager d' → HasManager d d'.manager d'
manager_then d mid d' one other = other ∙ ap (λ (x : DeliveryView). record x { manager = d'.manager }) one

-- What a path does to its transaction, and to all others.

only_none : (t : ℕ) (s : State) → OnlyGrants t s s
only_none t s =
    record { graph = refl; txns = refl; queue = refl; others = λ u n e. refl; more = λ n. at_least-refl (s.held t n) }

only_then : (t : ℕ) (s mid s' : State) → OnlyGrants t s mid → OnlyGrants t mid s' → OnlyGrants t s s'
only_then t s mid s' one other = record {
  graph = other.graph ∙ one.graph;
  txns = other.txns ∙ one.txns;
  queue = other.queue ∙ one.queue;
  others = λ u n e. other.others u n e ∙ one.others u n e;
  more = λ n. at_least-transitive (s'.held t n) (mid.held t n) (s.held t n) (other.more n) (one.more n);
}

-- a try is refused, and changes nothing, or is granted
first_came : (t : TxnId) (ask first : Ask) (m m' : ManagerView) (a : Answer) → TriesFirst t ask m first a m'
    → ((m' ≡ m) × (refuses a ≡ true)) ⊎ ((k : Mode) × (a ≡ answer.Granted k) × Took (state_of m) t first k (state_of m'))
first_came t ask first m m' a tries = by tries.step
  where
    by : Step (state_of m) (try_of t first) a [] (state_of m')
        → ((m' ≡ m) × (refuses a ≡ true)) ⊎ ((k : Mode) × (a ≡ answer.Granted k) × Took (state_of m) t first k (state_of m'))
    by (inr memory) = let is = ap refuses memory.1.answer_is in inl (tries.unchanged is, is)
    by (inl gone) = went (refusal_of (state_of m) (try_of t first)) refl gone
      where
        went : (o : Option Refusal) → refusal_of (state_of m) (try_of t first) ≡ o → Goes (state_of m) (try_of t first) o a [] (state_of m')
            → ((m' ≡ m) × (refuses a ≡ true)) ⊎ ((k : Mode) × (a ≡ answer.Granted k) × Took (state_of m) t first k (state_of m'))
        went (Some q) e un = let is = ap refuses un.answer_is in inl (tries.unchanged is, is)
        went None e h =
            inr (wanted (state_of m) t.slot first.0 first.1, h.1.0, record { passed = e; mode = refl; after = h.2 ∙ ap accepted_once h.1.2 })

-- the tests of an active transaction pass
abbrev pub IsActive : TxnId → State → Type 0
IsActive t s = (no_txn s t ≡ None) × (waiting_test (status_of s t.slot) ≡ None) × (condemned_test (status_of s t.slot) ≡ None)

still_active : (t : TxnId) (s s' : State) → s'.txns ≡ s.txns → IsActive t s → IsActive t s'
still_active t s s' same on =
    subst (λ (x : ℕ → Option Txn). (where_true (not (live_by t.age (x t.slot))) no.NoSuchTxn ≡ None) × (waiting_test (status_in (x t.slot)) ≡ None)
    × (condemned_test (status_in (x t.slot)) ≡ None)) (sym same) on

module _ (t : TxnId) (ask first : Ask) (m m' : ManagerView) (a : Answer) (tries : TriesFirst t ask m first a m') where
  first_only : OnlyGrants t.slot (state_of m) (state_of m')
  first_only = by (first_came t ask first m m' a tries)
    where
      by : ((m' ≡ m) × (refuses a ≡ true)) ⊎ ((k : Mode) × (a ≡ answer.Granted k) × Took (state_of m) t first k (state_of m'))
          → OnlyGrants t.slot (state_of m) (state_of m')
      by (inl same) = subst (λ (x : ManagerView). OnlyGrants t.slot (state_of m) (state_of x)) (sym same.0) (only_none t.slot (state_of m))
      by (inr x) = took_only (state_of m) t first x.0 (state_of m') x.2

  first_counts : (m' ≡ m) ⊎ (m'.accepted ≡ m.accepted + 1)
  first_counts = by (first_came t ask first m m' a tries)
    where
      by : ((m' ≡ m) × (refuses a ≡ true)) ⊎ ((k : Mode) × (a ≡ answer.Granted k) × Took (state_of m) t first k (state_of m'))
          → (m' ≡ m) ⊎ (m'.accepted ≡ m.accepted + 1)
      by (inl same) = inl same.0
      by (inr x) = inr (ap (λ (s : State). s.accepted) x.2.after)

  first_active : m.accepted < m'.accepted → IsActive t (state_of m)
  first_active more = by (first_came t ask first m m' a tries)
    where
      by : ((m' ≡ m) × (refuses a ≡ true)) ⊎ ((k : Mode) × (a ≡ answer.Granted k) × Took (state_of m) t first k (state_of m')) → IsActive t (state_of m)
      by (inl same) = let is : m'.accepted ≡ m.accepted = ap (λ (x : ManagerView). x.accepted) same.0 in absurd (omega (arith, more, is))
      by (inr x) = took_active (state_of m) t first x.0 (state_of m') x.2

module _ (t : TxnId) (ask last : Ask) (a : Answer) (m' : ManagerView) where
  -- only its transaction holds more
  pub up_only : (k : ℕ) (m : ManagerView) → TriesUp k t ask m last a m' → OnlyGrants t.slot (state_of m) (state_of m')
  up_only zero m path = first_only t ask last m m' a path.0
  up_only (suc k) m path =
      only_then t.slot (state_of m) (state_of path.2) (state_of m') (first_only t ask path.0 m path.2 path.1 path.3) (up_only k path.2 path.5)

  -- it is a run
  pub up_runs : (k : ℕ) (m : ManagerView) → TriesUp k t ask m last a m' → IsRunOf (try_of t ask) (state_of m) (state_of m')
  up_runs zero m path = own_one (try_of t ask) (try_of t last) (state_of m) (state_of m') a [] (λ u apart. apart) path.0.step
  up_runs (suc k) m path =
      own_then (try_of t ask) (state_of m) (state_of path.2) (state_of m')
      (own_one (try_of t ask) (try_of t path.0) (state_of m) (state_of path.2) path.1 [] (λ u apart. apart) path.3.step) (up_runs k path.2 path.5)

  -- it changes nothing, or more was counted
  pub up_counts : (k : ℕ) (m : ManagerView) → TriesUp k t ask m last a m' → (m' ≡ m) ⊎ (m.accepted < m'.accepted)
  up_counts zero m path =
      ⊎_elim (λ (same : m' ≡ m). inl same) (λ (more : m'.accepted ≡ m.accepted + 1). inr (omega (arith, more))) (first_counts t ask last m m' a path.0)
  up_counts (suc k) m path =
      let more : path.2.accepted ≡ m.accepted + 1 = down_counts t ask path.0 m path.2 path.1 (and_both _ _ path.4).0 path.3 in
      inr (⊎_elim
      (λ (same : m' ≡ path.2). let is : m'.accepted ≡ path.2.accepted = ap (λ (x : ManagerView). x.accepted) same in omega (arith, more, is))
      (λ (later : path.2.accepted < m'.accepted). omega (arith, more, later)) (up_counts k path.2 path.5))

  -- if more was counted its transaction is active
  pub up_active : (k : ℕ) (m : ManagerView) → TriesUp k t ask m last a m' → m.accepted < m'.accepted → IsActive t (state_of m')
  up_active zero m path more =
      still_active t (state_of m) (state_of m') (first_only t ask last m m' a path.0).txns (first_active t ask last m m' a path.0 more)
  up_active (suc k) m path more =
      let one : path.2.accepted ≡ m.accepted + 1 = down_counts t ask path.0 m path.2 path.1 (and_both _ _ path.4).0 path.3 in
      still_active t (state_of m) (state_of m') (up_only (suc k) m path).txns
      (first_active t ask path.0 m path.2 path.1 path.3 (omega (arith, one)))

-- a try of the path's own node is that which was asked
own_ask : (s : State) → IsLawful s → (t : TxnId) (ask last : Ask) → ComesFirst s t ask last → last.0 ≡ ask.0 → last ≡ ask
own_ask s law t ask last comes same = by comes.climb.0 comes.climb.1
  where
    by : (way : List NodeId) → ClimbsTo s t ask way last → last ≡ ask
    by [] h = h
    by (p ∷ way) h =
        absurd (law.graph.acyclic ask.0 p way (subst (λ n. IsRoute s.graph ask.0 (p ∷ way) n) same (climb_route s t ask (p ∷ way) last h)))

-- what is held after it is granted
up_held : (t : TxnId) (ask last : Ask) (g : Mode) (m' : ManagerView) (k : ℕ) (m : ManagerView) → IsLawful (state_of m)
    → TriesUp k t ask m last (answer.Granted g) m' → ((state_of m').held t.slot ask.0 ≡ g) × (is_at_least g ask.1 ≡ true)
up_held t ask last g m' zero m law path =
    let same : last.0 ≡ ask.0 = same_node-equal last.0 ask.0 (not_false _ path.1) in
    let is = own_ask (state_of m) law t ask last path.0.comes_first same in
    let it = took_is (state_of m) t last g [] (state_of m') path.0.step in (
      subst (λ (x : Ask). (state_of m').held t.slot x.0 ≡ g) is (took_held (state_of m) t last g (state_of m') it),
      subst (λ (x : Ask). is_at_least g x.1 ≡ true) is (took_least (state_of m) t last g (state_of m') it),
    )
  where
    not_false : (b : Bool) → not b ≡ false → b ≡ true
    not_false true e = refl
    not_false false e = absurd (never (sym e))
up_held t ask last g m' (suc k) m law path =
    up_held t ask last g m' k path.2 (steps_keep_law (state_of m) (state_of path.2) (try_of t path.0) path.1 [] law path.3.step) path.5

pub path_held : (t : TxnId) (ask : Ask) (came : Tried) (m m' : ManagerView) → IsLawful (state_of m) → TriesPath t ask m came m'
    → HoldsAsTried t ask came (state_of m')
path_held t ask (tried.Granted g) m m' law path = up_held t ask path.1 g m' path.0 m law path.2
path_held t ask (tried.WouldBlock n) m m' law path = tt
path_held t ask (tried.Refused r) m m' law path = tt

-- A refusal by the tests that speak of no parents is found at once.

free : (b : Bool) (r : Refusal) → r ≢ no.WouldBlock → where_true b r ≢ Some no.WouldBlock
free true r other e = other (some_is e)
free false r other e = none_some e

free_waiting : (o : Option Status) → waiting_test o ≢ Some no.WouldBlock
free_waiting None e = none_some e
free_waiting (Some Active) e = none_some e
free_waiting (Some (Waiting n k)) e = cc
free_waiting (Some Condemned) e = none_some e

free_condemned : (o : Option Status) → condemned_test o ≢ Some no.WouldBlock
free_condemned None e = none_some e
free_condemned (Some Active) e = none_some e
free_condemned (Some (Waiting n k)) e = none_some e
free_condemned (Some Condemned) e = cc

abbrev Free : Option Refusal → Type 0
Free o = o ≢ Some no.WouldBlock

first_free : (xs : List (Option Refusal)) → AllByRecursion Free xs → Free (first_refusal xs)
first_free [] all = none_some
first_free (None ∷ xs) all = first_free xs all.1
first_free (Some r ∷ xs) all = all.0

free_tests : (s : State) (t : TxnId) (ask : Ask) → Free (first_refusal (path_tests s t ask.0 ask.1))
free_tests s t ask =
    first_free (path_tests s t ask.0 ask.1) (
      free _ no.WornOut (λ e. cc e),
      (
        free _ no.NoSuchTxn (λ e. cc e),
        (free_waiting _, (free_condemned _, (free _ no.NoSuchNode (λ e. cc e), (free _ no.BadMode (λ e. cc e), tt)))),
      ),
    )

module _ (t : TxnId) (ask : Ask) (m : ManagerView) (q : Refusal) (found : first_refusal (path_tests (state_of m) t ask.0 ask.1) ≡ Some q) where
  found_lock : refusal_of (state_of m) (lock_of t ask) ≡ Some q
  found_lock =
      first_stays (path_tests (state_of m) t ask.0 ask.1)
      (need_parents (state_of m) t.slot ask.0 (wanted (state_of m) t.slot ask.0 ask.1) ∷ []) q found

  found_try : refusal_of (state_of m) (try_of t ask) ≡ Some q
  found_try = as_lock (state_of m) t ask q found_lock

  no_memory : may_lack_memory (state_of m) (try_of t ask) ≡ false
  no_memory =
      ap (λ o. lists_memory (state_of m) (try_of t ask) && (is_none o || is_cycle o)) found_try
      ∙ ap (λ b. lists_memory (state_of m) (try_of t ask) && b) (ap is_cycle (sym found) ∙ (plain_tests (state_of m) t ask.0 ask.1).1)
      ∙ and_false (lists_memory (state_of m) (try_of t ask))
    where
      and_false : (b : Bool) → (b && false) ≡ false
      and_false true = refl
      and_false false = refl

  tries_itself : (first : Ask) (a : Answer) (m' : ManagerView) → TriesFirst t ask m first a m' → (a ≡ answer.Refused q) × (m' ≡ m)
  tries_itself first a m' tries =
      let here = stays_at (state_of m) t ask tries.comes_first.climb.0 first tries.comes_first.climb.1
      (ap parent_missed (found_lock ∙ sym found) ∙ (plain_tests (state_of m) t ask.0 ask.1).0) in
      let is = answered (subst (λ (x : Ask). Step (state_of m) (try_of t x) a [] (state_of m')) here tries.step) in
      (is, tries.unchanged (ap refuses is))
    where
      answered : Step (state_of m) (try_of t ask) a [] (state_of m') → a ≡ answer.Refused q
      answered (inl gone) = (subst (λ o. Goes (state_of m) (try_of t ask) o a [] (state_of m')) found_try gone).answer_is
      answered (inr memory) = absurd (never (sym no_memory ∙ memory.0))

  up_there : (k : ℕ) (last : Ask) (a : Answer) (m' : ManagerView) → TriesUp k t ask m last a m' → (a ≡ answer.Refused q) × (m' ≡ m)
  up_there zero last a m' path = tries_itself last a m' path.0
  up_there (suc k) last a m' path =
      absurd (never (ap grants (sym (tries_itself path.0 path.1 path.2 path.3).0) ∙ (and_both _ _ path.4).0))

  pub decided : (came : Tried) (m' : ManagerView) → TriesPath t ask m came m' → (came ≡ tried.Refused q) × (m' ≡ m)
  decided came m' path = let is = up_there path.0 path.1 (last_answer came) m' path.2 in (by came is.0, is.1)
    where
      by : (x : Tried) → last_answer x ≡ answer.Refused q → x ≡ tried.Refused q
      by (tried.Granted k) e = absurd (not_refused k q e)
      by (tried.WouldBlock n) e =
          absurd (free_tests (state_of m) t ask (found ∙ ap (λ (r : Refusal). Some r) (sym (refused_is q no.WouldBlock e))))
      by (tried.Refused r) e = ap (λ (x : Refusal). tried.Refused x) (refused_is q r e)

-- Nobody's wait ends by tries.

pub still_waits : (t : ℕ) (s s' : State) → OnlyGrants t s s' → (u : TxnId) (n : NodeId) → waits_on s' u n ≡ waits_on s u n
still_waits t s s' only u n = ap (λ (x : ℕ → Option Txn). live_by u.age (x u.slot) && waits_at (status_in (x u.slot)) n) only.txns

-- The call that tries a path.

module _ (k : Keep) (t : TxnId) (ask : Ask) (d : DeliveryView) (came : Tried) (mid : ManagerView) (path : TriesPath t ask d.manager came mid) where
  abbrev between : DeliveryView
  between = record d { manager = mid }

  pub path_only : OnlyGrants t.slot (state_of d.manager) (state_of mid)
  path_only = up_only t ask path.1 (last_answer came) mid path.0 d.manager path.2

  pub path_runs : IsRunOf (try_of t ask) (state_of d.manager) (state_of mid)
  path_runs = up_runs t ask path.1 (last_answer came) mid path.0 d.manager path.2

  pub path_low : d.manager.accepted ≤ mid.accepted
  path_low =
      ⊎_elim (λ (same : mid ≡ d.manager). let is : mid.accepted ≡ d.manager.accepted = ap (λ (x : ManagerView). x.accepted) same in omega (arith, is))
      (λ (more : d.manager.accepted < mid.accepted). omega (arith, more)) (up_counts t ask path.1 (last_answer came) mid path.0 d.manager path.2)

  pub path_ended : (slots : Slots) → HasEnded (state_of d.manager) (state_of mid) slots
  path_ended slots law u n below was gone = absurd (true≢false (sym was ∙ sym (still_waits t.slot (state_of d.manager) (state_of mid) path_only u n) ∙ gone))

  -- nothing was granted, or its transaction is active
  pub path_active : d.manager.accepted < mid.accepted → IsActive t (state_of mid)
  path_active more = up_active t ask path.1 (last_answer came) mid path.0 d.manager path.2 more

  -- which holds as many locks at the beginning as it is asked
  pub mark_is : (o : Option ℕ) → o ≡ (if lives (state_of d.manager) t then Some (lock_count d.manager t) else None) → d.manager.accepted < mid.accepted
      → unwrap_or o 0 ≡ lock_count d.manager t
  mark_is o is more =
      ap (λ x. unwrap_or x 0) (is ∙ ap (λ b. if b then Some (lock_count d.manager t) else None) alive)
    where
      alive : lives (state_of d.manager) t ≡ true
      alive =
          sym (ap (λ (x : ℕ → Option Txn). live_by t.age (x t.slot)) path_only.txns)
          ∙ txn_lives (state_of mid) t (path_active more).0

  -- all of it stays
  pub stays : (told : Told) (ended : Slots) → told ≡ [] → HasNoSlot ended → (mid.accepted ≡ d.manager.accepted) ⊎ (gives_back k came ≡ false)
      → IsTried k t ask d came told ended between
  stays told ended untold none why = record { mid = mid; path = path; grants = path_only; leaves = by (gives_back k came) why }
    where
      nothing : ComesToNothing between told ended between
      nothing = record { same = refl; untold = untold; none = none }

      by : (b : Bool) → (mid.accepted ≡ d.manager.accepted) ⊎ (b ≡ false)
          → LeavesTries b t (lock_count d.manager t) d.manager.accepted between told ended between
      by false h = nothing
      by true (inl same) = inl (same, nothing)
      by true (inr e) = absurd (true≢false e)

  -- it rolls back
  module _ (mark : ℕ) (released : Result ℕ Refusal) (told : Told) (ended : Slots) (d' : DeliveryView)
      (back : GoesBackTo t mark mid d.rows released told d'.manager d'.rows) (delivered : OnOk released (Delivered between (unlocking t) told ended d'))
      (refused : OnErr released (ComesToNothing between told ended d')) (more : d.manager.accepted < mid.accepted) where
    worn_only : (r : Refusal) → first_refusal (back_tests mid t mark) ≡ Some r → r ≡ no.WornOut
    worn_only r e =
        let on = path_active more in
        by _
        (sym ((λ i. first_refusal (on.0 i ∷ on.1 i ∷ on.2 i ∷ worn_for (state_of mid) (count_since mid t.slot mark) ∷ [])) ∙ alone _) ∙ e)
      where
        by : (b : Bool) → where_true b no.WornOut ≡ Some r → r ≡ no.WornOut
        by true h = sym (some_is h)
        by false h = absurd (none_some h)

    worn_back : (x : Result ℕ Refusal) → GoesBackTo t mark mid d.rows x told d'.manager d'.rows → IfErr x (λ r. r ≡ no.WornOut)
    worn_back (Ok n) h = tt
    worn_back (Err r) h = worn_only r h.0

    pub rolls : RollsBack t mark between told ended d'
    rolls = record { released = released; back = back; delivered = delivered; refused = refused; worn = worn_back released back }

    pub rolled : mark ≡ lock_count d.manager t → gives_back k came ≡ true → IsTried k t ask d came told ended d'
    rolled is gives = record {
      mid = mid;
      path = path;
      grants = path_only;
      leaves = subst (λ b. LeavesTries b t (lock_count d.manager t) d.manager.accepted between told ended d') (sym gives)
          (inr (more, subst (λ (n : ℕ). RollsBack t n between told ended d') is rolls));
    }

    pub rolled_ended : IsLawful (state_of mid) → HasEnded (state_of d.manager) (state_of d'.manager) ended
    rolled_ended law before u n below was gone =
        by released delivered refused law u n below (still_waits t.slot (state_of d.manager) (state_of mid) path_only u n ∙ was) gone
      where
        by : (x : Result ℕ Refusal) → OnOk x (Delivered between (unlocking t) told ended d') → OnErr x (ComesToNothing between told ended d')
            → HasEnded (state_of mid) (state_of d'.manager) ended
        by (Ok j) h none = h.wakes.all
        by (Err r) h none = subst (λ (x : DeliveryView). HasEnded (state_of mid) (state_of x.manager) ended) (sym none.same) (ended_none (state_of mid) ended)

-- a path that rolls back was not granted
pub none_held : (k : Keep) (t : TxnId) (ask : Ask) (came : Tried) (s : State) → gives_back k came ≡ true → HoldsAsTried t ask came s
none_held k t ask (tried.Granted m) s gives = absurd (never gives)
none_held k t ask (tried.WouldBlock n) s gives = tt
none_held k t ask (tried.Refused r) s gives = tt
