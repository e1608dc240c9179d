-- A path, for notices, waits and watchers. For Guarded.serve_path.
use Rattle.gl_slots.specs.declared.slots.Slots.{Slots}
use Rattle.gl_slots.specs.Limit.{most_slots}
use Rattle.std.specs.Prelude.{◌≡◌, ◌⊎◌, ℕ, zero, suc, ◌≤◌, ◌==◌, not, Bool, true, false, [], length, OnErr, Option, Result}
use Rattle.std.specs.Prelude.{Ok, Err, ◌&&◌, if◌then◌else◌}
use Rattle.std.proofs.Common.{refl, sym, ap, subst, inl, inr}
use mathlib.Core.Bool.{true≢false}
use Rattle.std.proofs.lemmas.Bool.{not-true}
use Rattle.std.proofs.lemmas.List.{nil_from_length}
use Rattle.gl_modes.proofs.Words.{and_both, both as both_true, same_number}
use Rattle.gl_modes.specs.declared.mode.Mode.{Mode}
use Rattle.gl_modes.specs.declared.node.NodeId.{NodeId}
use Rattle.gl_slots.specs.Slots.{has_slot}
use Rattle.gl_modes.specs.declared.refusal.Refusal.{Refusal}
use Rattle.gl_model.specs.declared.answers.Locked.{Locked}
use Rattle.gl_model.specs.declared.answers.Locked.TheVariants as locked
use Rattle.gl_model.specs.declared.txn.TxnId.{TxnId}
use Rattle.gl_model.specs.State.{State}
use Rattle.gl_model.specs.Tellings.{Told}
use Rattle.gl_steps.specs.declared.command.Answer.{Answer}
use Rattle.gl_steps.specs.declared.command.Command.{Command}
use Rattle.gl_steps.specs.declared.command.Answer.TheVariants as answer
use Rattle.gl_catalog.specs.Counters.{grants, refuses}
use Rattle.gl_catalog.specs.Manager.{ManagerView, state_of}
use Rattle.gl_catalog.specs.declared.manager.paths.Reached.{Reached}
use Rattle.gl_catalog.specs.Paths.{Ask, IsPath, LocksPath, goes_on, lock_of, reaching}
use Rattle.gl_steps.specs.Promises.{NobodyWaits}
use Rattle.gl_catalog.specs.Replies.{Says, said}
use Rattle.gl_steps.specs.Step.{Step, answer_of_lock}
use Rattle.gl_steps.proofs.Detection.{steps_keep_settings}
use Rattle.gl_steps.proofs.StepsKeepLaw.{steps_keep_law}
use Rattle.gl_steps.proofs.WaitsBegin.{nobody_waits_on}
use Rattle.gl_header.specs.Header.{is_empty}
use Rattle.gl_model.specs.Lawful.{IsLawful}
use Rattle.gl_slots.specs.Slots.{has_none}
use Rattle.gl_window.proofs.Spared.{none_in, step_spares}
use Rattle.gl_window.proofs.Waits.{Spares, nobody_spared, none_waits, spared_itself, spares_then}
use Rattle.gl_window.specs.Boards.{HasParties}
use Rattle.gl_window.specs.Tellings.{still_known}
use Rattle.gl_window.specs.Strip.{Strip}
use Rattle.gl_c.proofs.serving.Showing.{knows_if}
use Rattle.gl_c.specs.managers.Serving.{KnowsWaits}
use Rattle.gl_c.specs.locks.Paths.{ends_waiting, goes_well, is_left_waiting, leaves_on_path}

-- a step does not change the limit of transactions
most : (s s' : State) (c : Command) (a : Answer) (told : Told) → Step s c a told s' → s'.most ≡ s.most
most s s' c a told step = ap (λ x. x.2) (steps_keep_settings s s' c a told step)

-- what is granted is neither refused nor waited for
grant_is : (a : Answer) → grants a ≡ true → (m : Mode) × (a ≡ answer.Granted m)
grant_is (answer.Granted m) e = (m, refl)
grant_is (answer.Refused r) e = absurd (cc e)
grant_is answer.Done e = absurd (cc e)
grant_is (answer.Node n) e = absurd (cc e)
grant_is (answer.Begun t) e = absurd (cc e)
grant_is answer.Waiting e = absurd (cc e)
grant_is answer.Victim e = absurd (cc e)
grant_is (answer.Escalated x) e = absurd (cc e)
grant_is (answer.Mode m) e = absurd (cc e)
grant_is (answer.Effect x) e = absurd (cc e)

-- after a request that does not end the path, nobody is told
module _ (node asked : NodeId) (r : Says) (on : goes_on node asked r ≡ true) where
  both : (grants r.0 ≡ true) × ((length r.1 == 0) ≡ true)
  both = and_both (grants r.0) (length r.1 == 0) (and_both _ _ on).0

  granted : (m : Mode) × (r.0 ≡ answer.Granted m)
  granted = grant_is r.0 both.0

  none_told : r.1 ≡ []
  none_told = nil_from_length r.1 (same_number (length r.1) 0 both.1)

module _ (t : TxnId) (ask last : Ask) (r : Says) (m' : ManagerView) where
  -- if nobody waited and it leaves nobody waiting, nobody waits after it
  pub path_quiet : (k : ℕ) (m : ManagerView) → NobodyWaits (state_of m) → (r.0 ≡ answer.Waiting → ⊥) → IsPath k t ask m last r m' → NobodyWaits (state_of m')
  path_quiet zero m idle goes path = nobody_waits_on (state_of m) (state_of m') (lock_of t last) r.0 r.1 idle goes path.0.step
  path_quiet (suc k) m idle goes path =
      let yes = granted ask.0 path.0.0 path.1 path.4 in
      path_quiet k path.2
      (nobody_waits_on (state_of m) (state_of path.2) (lock_of t path.0) path.1.0 path.1.1 idle (λ is. absurd (cc (is, yes.1))) path.3.step) goes path.5

  -- if its transaction is no party to a wait, and its last request is refused, or is granted and tells nobody, it spares all waits
  path_spares : (set : Slots) (k : ℕ) (m : ManagerView) → IsLawful (state_of m) → (state_of m).most ≤ most_slots → HasParties (state_of m) set
      → has_slot set t.slot ≡ false → (refuses r.0 ≡ true) ⊎ ((grants r.0 ≡ true) × (r.1 ≡ [])) → IsPath k t ask m last r m'
      → Spares set (state_of m) (state_of m')
  path_spares set zero m law few has out (inl refused) path =
      subst (λ (x : ManagerView). Spares set (state_of m) (state_of x)) (sym (path.0.unchanged refused)) (spared_itself set (state_of m) has)
  path_spares set zero m law few has out (inr went) path =
      step_spares set (state_of m) law few has r.0 r.1 (state_of m') went.1 (lock_of t last) path.0.step (both_true (grants r.0) _ went.0 (ap not out))
  path_spares set (suc k) m law few has out well path =
      let on = and_both (grants path.1.0) (length path.1.1 == 0) (and_both _ _ path.4).0 in
      let none = none_told ask.0 path.0.0 path.1 path.4 in
      let first : Spares set (state_of m) (state_of path.2) =
      step_spares set (state_of m) law few has path.1.0 path.1.1 (state_of path.2) none (lock_of t path.0) path.3.step
      (both_true (grants path.1.0) _ on.0 (ap not out)) in
      spares_then set (state_of m) (state_of path.2) (state_of m') first
      (path_spares set k path.2
      (steps_keep_law (state_of m) (state_of path.2) (lock_of t path.0) path.1.0 path.1.1 law path.3.step)
      (subst (λ n. n ≤ most_slots) (sym (most (state_of m) (state_of path.2) (lock_of t path.0) path.1.0 path.1.1 path.3.step)) few) first.parties out well
      path.5)

-- The same for a call that locks a path.
module _ (t : TxnId) (ask : Ask) (m m' : ManagerView) (told : Told) where
  -- the notices, even if it is refused
  told_is : (result : Result Reached Refusal) → OnErr result (told ≡ []) → (said (reaching told) result).1 ≡ told
  told_is (Ok x) none = refl
  told_is (Err r) none = sym none

  -- a path that leaves nobody waiting is not answered with a wait
  none_waiting : (result : Result Reached Refusal) → ends_waiting result ≡ false → (said (reaching told) result).0 ≡ answer.Waiting → ⊥
  none_waiting (Ok x) not_so is = by x.locked not_so is
    where
      by : (y : Locked) → is_left_waiting y ≡ false → answer_of_lock y ≡ answer.Waiting → ⊥
      by (locked.Granted mode) e w = cc
      by locked.Waiting e w = true≢false e
      by locked.Victim e w = cc
  none_waiting (Err r) not_so is = cc

  module _ (result : Result Reached Refusal) (none : OnErr result (told ≡ [])) (path : LocksPath t ask m told result m') where
    abbrev says : Says
    says = said (reaching told) result

    stays_quiet : NobodyWaits (state_of m) → ends_waiting result ≡ false → NobodyWaits (state_of m')
    stays_quiet idle goes = path_quiet t ask path.1 says m' path.0 m idle (none_waiting result goes) path.2

    -- what is known of the waits after it
    pub path_known : IsLawful (state_of m) → (state_of m).most ≤ most_slots → (shown : Option Strip) (parties : Option Slots)
        → KnowsWaits (state_of m) shown parties → KnowsWaits (state_of m') shown (still_known parties (λ known. leaves_on_path known t result told))
    path_known law few shown parties =
        knows_if (state_of m) (state_of m') shown parties (λ known. leaves_on_path known t result told) (λ set has. by set has (has_none set) refl)
      where
        well : (x : Result Reached Refusal) → goes_well x ≡ true → told ≡ []
            → (refuses (said (reaching told) x).0 ≡ true) ⊎ ((grants (said (reaching told) x).0 ≡ true) × ((said (reaching told) x).1 ≡ []))
        well (Ok x) e untold = inr (e, untold)
        well (Err x) e untold = inl refl

        by : (set : Slots) → HasParties (state_of m) set → (b : Bool) → has_none set ≡ b
            → (if b then not (ends_waiting result) else is_empty told && (goes_well result && not (has_slot set t.slot))) ≡ true
            → Spares set (state_of m) (state_of m')
        by set has true is e =
            let idle = none_waits (state_of m) set has is in
            nobody_spared set (state_of m) (state_of m') idle (stays_quiet idle (not-true _ e))
        by set has false is e =
            let b = and_both (is_empty told) _ e in let c = and_both (goes_well result) _ b.1 in
            path_spares t ask path.1 says m' set path.0 m law few has (not-true _ c.1) (well result c.0 (none_in told b.0)) path.2
