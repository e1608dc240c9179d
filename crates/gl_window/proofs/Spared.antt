-- Commands that change no wait if nobody is told. For watchers that are told only if waits may have changed.
use Rattle.gl_window.proofs.Words.{◌&&◌, ◌+◌, ◌==◌, [], ◌||◌, ◌∙◌, ◌∷◌, ◌≡◌, ◌≤◌, ⊎_elim, accepted_once, Active, age_in, age_of, Answer, ap, arith, begun_at}
use Rattle.gl_window.proofs.Words.{Bool, clash, Command, enters_at, false, grants, Graph, has_none, has_slot, HasParties, holds, if◌then◌else◌, inl, is_empty}
use Rattle.gl_window.proofs.Words.{is_some, is_wait, is_waiting_at, IsLawful, lawful_orderly, leaves_waiting, leaves_waits, members, Mode, most_slots, NL, no}
use Rattle.gl_window.proofs.Words.{NodeId, None, none_some, not, not-true, number_same, Option, refl, Refusal, same_node, Slots, Some, spares_waits, split}
use Rattle.gl_window.proofs.Words.{State, Status, status_in, status_of, Step, subst, sym, Told, true, true≢false, Txn, TxnId, unlocked, waiting_is, wanted}
use Rattle.gl_window.proofs.Words.{with_grant, with_graph, ℕ}
use Rattle.std.specs.Prelude.{min}
use Rattle.gl_modes.proofs.Words.{and_both, both, same_number}
use Rattle.gl_modes.specs.declared.mode.Mode.TheVariants.{X}
use Rattle.gl_modes.specs.declared.refusal.Refusal.TheVariants as no
use Rattle.gl_graph.proofs.Unrefused.{not_false, test_fails}
use Rattle.gl_header.specs.Header.{without_waiter}
use Rattle.gl_model.proofs.law.Lock.{free_slot as first_free, joining_slot}
use Rattle.gl_model.proofs.queues.Edits.{without_none}
use Rattle.gl_model.proofs.telling.Fronts.{in_no_queue}
use Rattle.gl_model.specs.Calls.{granted, joining_age, released, would_block}
use Rattle.gl_model.specs.State.{live_by, lives}
use Rattle.gl_steps.proofs.NotRefused.{active_is}
use Rattle.gl_steps.proofs.OneStep.{all_none, AllNone}
use Rattle.gl_steps.proofs.WaitsBegin.{nobody_waits_on}
use Rattle.gl_steps.proofs.WaitsEnd.{ends_waits}
use Rattle.gl_steps.specs.Promises.{ends_wait_of, is_told, waits_on}
use Rattle.gl_steps.specs.Step.{Accepts, Answers, Goes, query_answer, Unchanged}
use Rattle.gl_steps.specs.Tests.{may_lack_memory, refusal_of, tests_of}
use Rattle.gl_steps.specs.declared.command.Answer.TheVariants as answer
use Rattle.gl_steps.specs.declared.command.Command.TheVariants as command
use Rattle.gl_window.proofs.Waits.{begun_spares, counted, enters_alone, enters_now, free_holds, free_idle, granted_spares, nobody_spared, none_waits, regraphed}
use Rattle.gl_window.proofs.Waits.{released_spares, spared_itself, Spares, unborn, unlock_releases}

-- Steps.

live_own : (x : Option Txn) (st : Status) → status_in x ≡ Some st → live_by (age_in x) x ≡ true
live_own None st e = absurd (none_some e)
live_own (Some x) st e = number_same x.age x.age refl

-- if nobody is told, each waiter waits on, except one whose wait the command cancels by name
waits_still : (s s' : State) (c : Command) (a : Answer) (told : Told) → IsLawful s → Step s c a told s' → told ≡ []
    → (u : ℕ) (q : NodeId) → ends_wait_of (record { slot = u; age = age_of s u }) c ≡ false → is_waiting_at s u q ≡ true → is_waiting_at s' u q ≡ true
waits_still s s' c a told law step none u q unnamed at =
    let t : TxnId = record { slot = u; age = age_of s u } in
    let w = waiting_is (status_of s u) q at in
    split (waits_on s' t q)
    (λ e. (and_both (lives s' t) (is_waiting_at s' u q) e).1)
    (λ e. clash (ends_waits s s' c a told t q law step (both (lives s t) (is_waiting_at s u q) (live_own (s.txns u) _ w.1) at) e)
    (ap (λ l. is_told t l || ends_wait_of t c) none ∙ unnamed))

pub none_in : (told : Told) → is_empty told ≡ true → told ≡ []
none_in [] e = refl
none_in (x ∷ told) e = absurd (no e)

module _ (set : Slots) (s : State) (law : IsLawful s) (few : s.most ≤ most_slots) (has : HasParties s set) (a : Answer) (told : Told) (s' : State)
    (none : told ≡ []) where
  module _ (c : Command) (next : State) (step : Step s c a told s') (is : s' ≡ accepted_once next) where
    on : (u : ℕ) (q : NodeId) → ends_wait_of (record { slot = u; age = age_of s u }) c ≡ false → is_waiting_at s u q ≡ true → is_waiting_at next u q ≡ true
    on u q unnamed at = sym (ap (λ (z : State). is_waiting_at z u q) is) ∙ waits_still s s' c a told law step none u q unnamed at

  lock_case : (t : TxnId) (n : NodeId) (m : Mode) (next : State) → Step s (command.Lock t n m) a told s' → s' ≡ accepted_once next
      → status_of s t.slot ≡ Some Active → (grants a && not (has_slot set t.slot)) ≡ true → Accepts s (command.Lock t n m) a told next → Spares set s next
  lock_case t n m next step is active spared acc =
      let b = and_both (grants a) (not (has_slot set t.slot)) spared in
      let enters = enters_now s t.slot n m next a active acc.1 b.0 (λ u q at. on (command.Lock t n m) next step is u q refl at) acc.0 in
      subst (Spares set s) (sym (acc.0.at_once enters))
      (granted_spares s law set t.slot n (wanted s t.slot n m) has (enters_alone s law set t.slot n m has (not-true _ b.1) enters))

  try_case : (t : TxnId) (n : NodeId) (m : Mode) (next : State) → would_block s t.slot n m ≡ None → not (has_slot set t.slot) ≡ true
      → next ≡ granted s t.slot n m → Spares set s next
  try_case t n m next enterable spared e =
      let enters : enters_at s t.slot n m ≡ true = not_false (enters_at s t.slot n m) (test_fails (not (enters_at s t.slot n m)) no.WouldBlock enterable) in
      subst (Spares set s) (sym e)
      (granted_spares s law set t.slot n (wanted s t.slot n m) has (enters_alone s law set t.slot n m has (not-true _ spared) enters))

  unlock_case : (t : TxnId) (n : NodeId) (next : State) → Step s (command.Unlock t n) a told s' → s' ≡ accepted_once next
      → not (has_slot set t.slot) ≡ true → next ≡ unlocked s t.slot n → Spares set s next
  unlock_case t n next step is spared e =
      subst (Spares set s) (sym e)
      (released_spares set s law has t.slot (not-true _ spared) (with_grant s t.slot n NL) (same_node n)
      (unlock_releases s t.slot n (has t.slot (not-true _ spared)).0
      (λ u q at. sym (ap (λ (z : State). is_waiting_at z u q) e) ∙ on (command.Unlock t n) next step is u q refl at)))

  -- a commit or an abort
  end_case : (c : Command) (t : TxnId) (next : State) → Step s c a told s' → s' ≡ accepted_once next
      → ((u : TxnId) → (u.slot == t.slot) ≡ false → ends_wait_of u c ≡ false) → not (has_slot set t.slot) ≡ true → next ≡ released s t.slot
      → Spares set s next
  end_case c t next step is unnamed spared e =
      let idle = (has t.slot (not-true _ spared)).0 in
      subst (Spares set s) (sym e)
      (released_spares set s law has t.slot (not-true _ spared)
      (record s {
        held = λ u n. if u == t.slot then NL else s.held u n;
        queue = λ n. without_waiter t.slot (s.queue n);
        txns = λ u. if u == t.slot then None else s.txns u;
      })
      (λ n. holds (members s n) t.slot || is_waiting_at s t.slot n)
      (record {
        others = λ u q apart. ap (λ b. if b then NL else s.held u q) apart;
        own = λ q. inl (ap (λ b. if b then NL else s.held t.slot q) (number_same t.slot t.slot refl));
        queues = λ q. without_none t.slot (s.queue q) (in_no_queue s (lawful_orderly s law) t.slot idle q);
        txns = λ u apart. ap (λ b. if b then None else s.txns u) apart;
        own_idle = ap (λ b. is_wait (status_in (if b then None else s.txns t.slot))) (number_same t.slot t.slot refl);
        still = λ u q at.
            let apart : (u == t.slot) ≡ false =
            split (u == t.slot)
            (λ k. clash (ap is_wait (waiting_is (status_of s u) q at).1) (ap (λ x. is_wait (status_of s x)) (same_number u t.slot k) ∙ idle))
            (λ k. k) in
            sym (ap (λ (z : State). is_waiting_at z u q) e) ∙ on c next step is u q (unnamed (record { slot = u; age = age_of s u }) apart) at;
      }))

  -- another slot is another transaction
  abort_names : (t u : TxnId) → (u.slot == t.slot) ≡ false → ends_wait_of u (command.Abort t) ≡ false
  abort_names t u apart = ap (λ b. b && (u.age == t.age)) apart

  born_case : (t : TxnId) (n : NodeId) (next : State) → n.birth ≡ s.graph.births + 1 → next ≡ with_grant (with_graph s next.graph) t.slot n X
      → Spares set s next
  born_case t n next birth e =
      subst (Spares set s) (sym e)
      (regraphed set s (with_grant s t.slot n X) next.graph (granted_spares s law set t.slot n X has (unborn s law n (omega (arith, birth)))))

  graph_case : (next : State) (g : Graph) → next ≡ with_graph s g → Spares set s next
  graph_case next g e = subst (Spares set s) (sym e) (regraphed set s s g (spared_itself set s has))

  begun_case : (t age since : ℕ) (next : State) → is_some (s.txns t) ≡ false → next ≡ begun_at s t age since → Spares set s next
  begun_case t age since next gone e =
      subst (Spares set s) (sym e) (begun_spares set s law has t age since (free_idle s t gone) (λ u n at. free_holds s law t gone n))

  renewed_case : (t age since : ℕ) (next : State) → not (has_slot set t) ≡ true → next ≡ begun_at s t age since → Spares set s next
  renewed_case t age since next spared e =
      let party = has t (not-true _ spared) in subst (Spares set s) (sym e) (begun_spares set s law has t age since party.0 party.1)

  accepted : (c : Command) (next : State) → Step s c a told s' → s' ≡ accepted_once next → AllNone (tests_of s c) → spares_waits set c a ≡ true
      → Accepts s c a told next → Spares set s next
  accepted (command.Inner ps) next step is passed spared acc = graph_case next _ acc.4
  accepted (command.File ps) next step is passed spared acc = graph_case next _ acc.4
  accepted (command.Index ps f bs) next step is passed spared acc = graph_case next _ acc.4
  accepted command.Begin next step is passed spared acc = begun_case acc.0 (s.begins + 1) (s.begins + 1) next (first_free s acc.0 0 s.most acc.1).0 acc.4
  accepted (command.BeginAgain since) next step is passed spared acc =
      begun_case acc.0 (s.begins + 1) (min since (s.begins + 1)) next (first_free s acc.0 0 s.most acc.1).0 acc.4
  accepted (command.Join t since) next step is passed spared acc =
      begun_case t (joining_age s since) since next (joining_slot s t passed.1.1.0).0 acc.2
  accepted (command.Lock t n m) next step is passed spared acc =
      lock_case t n m next step is (active_is s t passed.1.0 passed.1.1.0 passed.1.1.1.0) spared acc
  accepted (command.Try t n m) next step is passed spared acc = try_case t n m next passed.1.1.1.1.1.1.1.0 spared acc.2
  accepted (command.Unlock t n) next step is passed spared acc = unlock_case t n next step is spared acc.2
  accepted (command.Commit t) next step is passed spared acc = end_case (command.Commit t) t next step is (λ u apart. refl) spared acc.2
  accepted (command.Renew t since) next step is passed spared acc = renewed_case t.slot (s.begins + 1) (min since (s.begins + 1)) next spared acc.2
  accepted (command.Abort t) next step is passed spared acc = end_case (command.Abort t) t next step is (abort_names t) spared acc.2
  accepted (command.Insert t f keys) next step is passed spared acc = born_case t acc.0 next acc.1.birth acc.4
  accepted (command.Adopt f keys) next step is passed spared acc = graph_case next _ acc.4
  accepted (command.Forget r) next step is passed spared acc = graph_case next _ acc.2
  accepted (command.IndexBy t ps f bs rs ks) next step is passed spared acc = born_case t acc.0 next acc.1.index.birth acc.4
  accepted c next step is passed spared acc = absurd (no spared)

  pub step_spares : (c : Command) → Step s c a told s' → spares_waits set c a ≡ true → Spares set s s'
  step_spares c step spared =
      ⊎_elim (λ goes. by (refusal_of s c) refl goes)
      (λ (lack : (may_lack_memory s c ≡ true) × Unchanged s a told s' (answer.Refused no.NoMemory)). same lack.1.same) step
    where
      same : s' ≡ s → Spares set s s'
      same e = subst (Spares set s) (sym e) (spared_itself set s has)

      answered : refusal_of s c ≡ None → (q : Option Answer) → Answers s c q a told s' → Spares set s s'
      answered unrefused (Some x) unchanged = same unchanged.same
      answered unrefused None ends =
          subst (Spares set s) (sym ends.2) (counted set s ends.0 (accepted c ends.0 step ends.2 (all_none (tests_of s c) unrefused) spared ends.1))

      by : (r : Option Refusal) → refusal_of s c ≡ r → Goes s c r a told s' → Spares set s s'
      by (Some r) e unchanged = same unchanged.same
      by None e goes = answered e (query_answer s c) goes

-- a command that is known to change no wait changes none
pub waits_left : (set : Slots) (s s' : State) (c : Command) (a : Answer) (told : Told) → IsLawful s → s.most ≤ most_slots → HasParties s set
    → Step s c a told s' → leaves_waits set c a told ≡ true → Spares set s s'
waits_left set s s' c a told law few has step known = by (has_none set) refl known
  where
    by : (b : Bool) → has_none set ≡ b → (if b then not (leaves_waiting a) else is_empty told && spares_waits set c a) ≡ true → Spares set s s'
    by true e goes_on =
        let idle = none_waits s set has e in
        nobody_spared set s s' idle (nobody_waits_on s s' c a told idle (λ is. true≢false (sym (ap leaves_waiting is) ∙ not-true _ goes_on)) step)
    by false e spared =
        let b = and_both (is_empty told) (spares_waits set c a) spared in
        step_spares set s law few has a told s' (none_in told b.0) c step b.1
