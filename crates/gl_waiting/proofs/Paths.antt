-- What a path is to those who are told and who wait, and that it is a run.
use Rattle.gl_slots.specs.declared.slots.Slots.{Slots}
use Rattle.gl_slots.specs.Limit.{most_slots}
use Rattle.std.specs.Prelude.{◌≡◌, ◌⊎◌, ℕ, zero, suc, ◌+◌, ◌<◌, ◌≤◌, ◌==◌, ◌||◌, not, Bool, true, false, [], length, OnErr, Result}
use Rattle.std.specs.Prelude.{Ok, Err}
use Rattle.std.specs.List.{list_any}
use Rattle.std.proofs.Common.{refl, sym, ap, subst, ◌∙◌, inl, inr, ⊎_elim, arith}
use mathlib.Core.Bool.{true≢false}
use Rattle.std.proofs.lemmas.List.{nil_from_length}
use Rattle.gl_modes.proofs.Words.{and_both, same_number, split}
use Rattle.gl_modes.specs.declared.mode.Mode.{Mode}
use Rattle.gl_modes.specs.declared.node.NodeId.{NodeId}
use Rattle.gl_slots.specs.Slots.{has_slot}
use Rattle.gl_waits.specs.declared.victims.Victims.{Victims}
use Rattle.gl_model.specs.declared.answers.Detect.{Detect}
use Rattle.gl_model.specs.declared.answers.Detect.TheVariants.{AtBlock, ByWatcher}
use Rattle.gl_modes.specs.declared.refusal.Refusal.{Refusal}
use Rattle.gl_model.specs.declared.answers.Locked.TheVariants as locked
use Rattle.gl_model.specs.declared.txn.TxnId.{TxnId}
use Rattle.gl_model.specs.Calls.{WaitSettles, enqueued, enters_at, wanted}
use Rattle.gl_model.specs.State.{SettledWithin, State, condemned}
use Rattle.gl_model.specs.Tellings.{Told}
use Rattle.gl_steps.specs.declared.command.Answer.{Answer}
use Rattle.gl_steps.specs.declared.command.Answer.TheVariants as answer
use Rattle.gl_catalog.specs.Counters.{grants, refuses}
use Rattle.gl_catalog.specs.Manager.{ManagerView, state_of}
use Rattle.gl_catalog.specs.declared.manager.paths.Reached.{Reached}
use Rattle.gl_catalog.specs.Paths.{Ask, AsksFirst, IsPath, LocksPath, goes_on, lock_of, reaching}
use Rattle.gl_steps.specs.Promises.{is_told, waits_on}
use Rattle.gl_catalog.specs.Replies.{Says, said}
use Rattle.gl_steps.specs.Step.{Step}
use Rattle.gl_steps.proofs.EachStep.{each_step}
use Rattle.gl_steps.proofs.StepsKeepLaw.{steps_keep_law}
use Rattle.gl_steps.proofs.WaitsEnd.{ends_waits}
use Rattle.gl_steps.specs.Served.{Counts, is_refused}
use Rattle.gl_wakes.specs.Notices.{RisingTo}
use Rattle.gl_wakes.specs.Wakes.{HasEnded}
use Rattle.gl_wakes.proofs.Rising.{step_rises}
use Rattle.gl_steps.proofs.Serving.{step_counts}
use Rattle.gl_wakes.proofs.Waking.{wakes_ended}
use Rattle.gl_waiting.specs.Going.{IsRunOf}
use Rattle.gl_waiting.proofs.Runs.{own_one, own_then}

-- a lock leaves the limit of transactions
settled_most : (c : Victims) (k : ℕ) (s s' : State) (t : ℕ) → SettledWithin c k s t s' → s'.most ≡ s.most
settled_most c zero s s' t h = ap (λ z. z.most) h.1
settled_most c (suc k) s s' t h = settled_most c k (condemned s h.0) s' t h.2

wait_most : (d : Detect) (c : Victims) (s s' : State) (t : ℕ) → WaitSettles d c s t s' → s'.most ≡ s.most
wait_most AtBlock c s s' t h = settled_most c h.0 s s' t h.1
wait_most ByWatcher c s s' t h = ap (λ z. z.most) h

lock_most : (t : TxnId) (ask : Ask) (s s' : State) (a : Answer) (told : Told) → Step s (lock_of t ask) a told s' → s'.most ≡ s.most
lock_most t ask s s' a told step =
    each_step (λ x. x.most ≡ s.most) s (lock_of t ask) a told s' refl (λ next same. same)
    (λ free next acc. split (enters_at s t.slot ask.0 ask.1) (λ e. ap (λ z. z.most) (acc.0.at_once e))
    (λ e. wait_most s.detect s.victims (enqueued s t.slot ask.0 (wanted s t.slot ask.0 ask.1)) next t.slot (acc.0.waits e))) step

-- two words for a refusal
refused_too : (a : Answer) → is_refused a ≡ true → refuses a ≡ true
refused_too (answer.Refused r) e = refl
refused_too answer.Done e = absurd (cc e)
refused_too (answer.Node n) e = absurd (cc e)
refused_too (answer.Begun t) e = absurd (cc e)
refused_too (answer.Granted m) e = absurd (cc e)
refused_too answer.Waiting e = absurd (cc e)
refused_too answer.Victim e = absurd (cc e)
refused_too (answer.Escalated x) e = absurd (cc e)
refused_too (answer.Mode m) e = absurd (cc e)
refused_too (answer.Effect x) e = absurd (cc e)

-- what is granted is neither refused nor waited for
grant_is : (a : Answer) → grants a ≡ true → (m : Mode) × (a ≡ answer.Granted m)
grant_is (answer.Granted m) e = (m, refl)
grant_is (answer.Refused r) e = absurd (cc e)
grant_is answer.Done e = absurd (cc e)
grant_is (answer.Node n) e = absurd (cc e)
grant_is (answer.Begun t) e = absurd (cc e)
grant_is answer.Waiting e = absurd (cc e)
grant_is answer.Victim e = absurd (cc e)
grant_is (answer.Escalated x) e = absurd (cc e)
grant_is (answer.Mode m) e = absurd (cc e)
grant_is (answer.Effect x) e = absurd (cc e)

-- behind an ask that the path goes on from, nobody is told
module _ (node asked : NodeId) (r : Says) (on : goes_on node asked r ≡ true) where
  both : (grants r.0 ≡ true) × ((length r.1 == 0) ≡ true)
  both = and_both (grants r.0) (length r.1 == 0) (and_both _ _ on).0

  granted : (m : Mode) × (r.0 ≡ answer.Granted m)
  granted = grant_is r.0 both.0

  none_told : r.1 ≡ []
  none_told = nil_from_length r.1 (same_number (length r.1) 0 both.1)

module _ (t : TxnId) (ask : Ask) (m : ManagerView) (first : Ask) (r : Says) (m' : ManagerView) (asks : AsksFirst t ask m first r m') where
  counts : Counts (state_of m) (lock_of t first) r.0 r.1 (state_of m')
  counts = step_counts (state_of m) (lock_of t first) r.0 r.1 (state_of m') asks.step

  -- an ask is refused and changes nothing, or is counted
  same_or_more : ((m' ≡ m) × (r.1 ≡ [])) ⊎ (m'.accepted ≡ m.accepted + 1)
  same_or_more = by (is_refused r.0) refl
    where
      by : (b : Bool) → is_refused r.0 ≡ b → ((m' ≡ m) × (r.1 ≡ [])) ⊎ (m'.accepted ≡ m.accepted + 1)
      by true e = inl (asks.unchanged (refused_too r.0 e), (counts.not_accepted (ap not e)).1)
      by false e = inr (counts.accepted (ap not e))

  -- a grant is counted
  one_more : (mode : Mode) → r.0 ≡ answer.Granted mode → m'.accepted ≡ m.accepted + 1
  one_more mode is = counts.accepted (ap (λ a. not (is_refused a)) is)

module _ (t : TxnId) (ask last : Ask) (r : Says) (m' : ManagerView) where
  -- a path of which nothing is accepted changes nothing
  pub path_counts : (k : ℕ) (m : ManagerView) → IsPath k t ask m last r m' → ((m' ≡ m) × (r.1 ≡ [])) ⊎ (m.accepted < m'.accepted)
  path_counts zero m path =
      ⊎_elim (λ (same : (m' ≡ m) × (r.1 ≡ [])). inl same) (λ (more : m'.accepted ≡ m.accepted + 1). inr (omega (arith, more)))
      (same_or_more t ask m last r m' path.0)
  path_counts (suc k) m path =
      let yes = granted ask.0 path.0.0 path.1 path.4 in
      let more : path.2.accepted ≡ m.accepted + 1 = one_more t ask m path.0 path.1 path.2 path.3 yes.0 yes.1 in
      inr (⊎_elim
      (λ (same : (m' ≡ path.2) × (r.1 ≡ [])). let is : m'.accepted ≡ path.2.accepted = ap (λ (x : ManagerView). x.accepted) same.0 in omega (arith, more, is))
      (λ (later : path.2.accepted < m'.accepted). omega (arith, more, later)) (path_counts k path.2 path.5))

  -- who is told stands by rising slot
  pub path_rises : (k : ℕ) (m : ManagerView) → (state_of m).most ≤ most_slots → IsPath k t ask m last r m' → RisingTo 0 r.1 most_slots
  path_rises zero m few path = step_rises (state_of m) (lock_of t last) r.0 r.1 (state_of m') few path.0.step
  path_rises (suc k) m few path =
      path_rises k path.2
      (subst (λ n. n ≤ most_slots) (sym (lock_most t path.0 (state_of m) (state_of path.2) path.1.0 path.1.1 path.3.step)) few) path.5

  -- whose wait it ends is told by its last ask
  pub path_ended : (k : ℕ) (m : ManagerView) (slots : Slots) → ((u : ℕ) → u < most_slots → has_slot slots u ≡ (false || list_any (λ x. x.0.slot == u) r.1))
      → IsPath k t ask m last r m' → HasEnded (state_of m) (state_of m') slots
  path_ended zero m slots is path law u n below was gone =
      wakes_ended (lock_of t last) r.1 slots is (state_of m) (state_of m') r.0 path.0.step law u n below was gone
  path_ended (suc k) m slots is path law u n below was gone =
      by (waits_on (state_of path.2) u n) refl
      (λ e. path_ended k path.2 slots is path.5
      (steps_keep_law (state_of m) (state_of path.2) (lock_of t path.0) path.1.0 path.1.1 law path.3.step) u n below e gone)
    where
      by : (b : Bool) → waits_on (state_of path.2) u n ≡ b → (waits_on (state_of path.2) u n ≡ true → has_slot slots u.slot ≡ true)
          → has_slot slots u.slot ≡ true
      by true e rest = rest e
      by false e rest =
          let told = ends_waits (state_of m) (state_of path.2) (lock_of t path.0) path.1.0 path.1.1 u n law path.3.step was e in
          absurd (true≢false (sym told ∙ ap (λ (l : Told). is_told u l || false) (none_told ask.0 path.0.0 path.1 path.4)))

  -- it is a run
  pub path_runs : (k : ℕ) (m : ManagerView) → IsPath k t ask m last r m' → IsRunOf (lock_of t ask) (state_of m) (state_of m')
  path_runs zero m path = own_one (lock_of t ask) (lock_of t last) (state_of m) (state_of m') r.0 r.1 (λ u apart. apart) path.0.step
  path_runs (suc k) m path =
      own_then (lock_of t ask) (state_of m) (state_of path.2) (state_of m')
      (own_one (lock_of t ask) (lock_of t path.0) (state_of m) (state_of path.2) path.1.0 path.1.1 (λ u apart. apart) path.3.step)
      (path_runs k path.2 path.5)

  -- where its last ask is granted it is counted
  pub path_granted : (mode : Mode) → r.0 ≡ answer.Granted mode → (k : ℕ) (m : ManagerView) → IsPath k t ask m last r m' → m.accepted < m'.accepted
  path_granted mode is zero m path = let more : m'.accepted ≡ m.accepted + 1 = one_more t ask m last r m' path.0 mode is in omega (arith, more)
  path_granted mode is (suc k) m path =
      let yes = granted ask.0 path.0.0 path.1 path.4 in
      let more : path.2.accepted ≡ m.accepted + 1 = one_more t ask m path.0 path.1 path.2 path.3 yes.0 yes.1 in
      let rest = path_granted mode is k path.2 path.5 in
      omega (arith, more, rest)

-- The same of a call that locks a path.
module _ (t : TxnId) (ask : Ask) (m m' : ManagerView) (told : Told) where
  -- what is told, also where it is refused
  told_is : (result : Result Reached Refusal) → OnErr result (told ≡ []) → (said (reaching told) result).1 ≡ told
  told_is (Ok x) none = refl
  told_is (Err r) none = sym none

  module _ (result : Result Reached Refusal) (none : OnErr result (told ≡ [])) (path : LocksPath t ask m told result m') where
    abbrev says : Says
    says = said (reaching told) result

    -- nothing was accepted, or more was
    pub same_or_later : ((m' ≡ m) × (told ≡ [])) ⊎ (m.accepted < m'.accepted)
    same_or_later =
        ⊎_elim (λ (same : (m' ≡ m) × (says.1 ≡ [])). inl (same.0, sym (told_is result none) ∙ same.1)) (λ (later : m.accepted < m'.accepted). inr later)
        (path_counts t ask path.1 says m' path.0 m path.2)

    -- by the two counts, which of both
    pub same_if : (before now : ℕ) → before ≡ m.accepted → now ≡ m'.accepted → now ≡ before → (m' ≡ m) × (told ≡ [])
    same_if before now was is so =
        ⊎_elim (λ (same : (m' ≡ m) × (told ≡ [])). same) (λ (later : m.accepted < m'.accepted). absurd (omega (arith, was, is, so, later))) same_or_later

    pub later_unless : (before now : ℕ) → before ≡ m.accepted → now ≡ m'.accepted → (now ≡ before → ⊥) → m.accepted < m'.accepted
    later_unless before now was is not_so =
        ⊎_elim
        (λ (same : (m' ≡ m) × (told ≡ [])). absurd (not_so (is ∙ ap (λ (x : ManagerView). x.accepted) same.0 ∙ sym was)))
        (λ (later : m.accepted < m'.accepted). later) same_or_later

    pub told_rises : (state_of m).most ≤ most_slots → RisingTo 0 told most_slots
    told_rises few = subst (λ (l : Told). RisingTo 0 l most_slots) (told_is result none) (path_rises t ask path.1 says m' path.0 m few path.2)

    pub ended_told : (slots : Slots) → ((u : ℕ) → u < most_slots → has_slot slots u ≡ (false || list_any (λ x. x.0.slot == u) told))
        → HasEnded (state_of m) (state_of m') slots
    ended_told slots is =
        path_ended t ask path.1 says m' path.0 m slots
        (λ u low. is u low ∙ ap (λ (l : Told). false || list_any (λ x. x.0.slot == u) l) (sym (told_is result none))) path.2

    pub way_runs : IsRunOf (lock_of t ask) (state_of m) (state_of m')
    way_runs = path_runs t ask path.1 says m' path.0 m path.2

  pub way_granted : (node : NodeId) (mode : Mode) → LocksPath t ask m told (Ok (record { node = node; locked = locked.Granted mode })) m'
      → m.accepted < m'.accepted
  way_granted node mode path = path_granted t ask path.1 _ m' mode refl path.0 m path.2
