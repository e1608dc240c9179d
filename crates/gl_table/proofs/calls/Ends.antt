-- What the ends of waits and of transactions make of a table. For cancels, commits, aborts and settles.
use Rattle.gl_table.proofs.Words.{◌==◌, [], ◌||◌, ◌∙◌, ◌≡◌, Active, ap, arith, cancelled, Deadlock, false, front_at, granted_at, HasNoCycle, holds, Inside}
use Rattle.gl_table.proofs.Words.{is_waiting_at, IsLawful, IsSound, Locks, members, nat_tests, nobody_told, NodeId, None, notices_in, number_same, refl}
use Rattle.gl_table.proofs.Words.{released, same_number, Settled, SettlesKeeping, split, State, state_at, state_of, status_of, stripped, subst, sym, TellsAll}
use Rattle.gl_table.proofs.Words.{TellsOthers, Told, told, told_but, told_is, told_to, true, view_of, WakesTold, without_wait, ℕ}
use Rattle.gl_table.proofs.calls.Calls.{keeping_also, settled_also, state_released, table_between}
use Rattle.gl_table.proofs.inside.Departures.{cancelled_own, cancelled_tells}
use Rattle.gl_model.proofs.law.Lock.{given_up-no_cycle, settled-no_cycle}
use Rattle.gl_model.proofs.law.Takes.{settled-lawful, without_wait-lawful}
use Rattle.gl_model.proofs.telling.Lists.{told_but_is}
use Rattle.gl_model.proofs.telling.Between.{gone_untold, is_by_test}

-- a released transaction has no slot
pub released_gone : (s : State) (t : ℕ) → status_of (released s t) t ≡ None
released_gone s t = grind (arith, nat_tests, granted_at (stripped s t) (λ n. holds (members s n) t || is_waiting_at s t n), number_same t t refl)

module _ (i : Inside) (sound : IsSound i) where
  abbrev s : State
  s = state_of (view_of i)

  -- the locks alone, as a state
  abbrev l : State
  l = state_at i.locks

  -- t alone acted up to x: all others are told, if at a later state they are told the same, and t is told nothing
  pub told_apart : (t : ℕ) (x now : State) (first list : Told) → first ≡ [] → TellsOthers t l x first list → told_to s now t ≡ None
      → ((u : ℕ) → (u == t) ≡ false → told_to s x u ≡ told_to s now u) → list ≡ told s now
  told_apart t x now first list none tells own same =
      told_is s now list sound.lawful i.locks.sound.few tells.by_slot (λ u. split (u == t)
      (λ e. ap (notices_in list) (same_number u t e) ∙ tells.own ∙ ap (λ xs. notices_in xs t) none
      ∙ sym (ap (told_to s now) (same_number u t e) ∙ own))
      (λ e. tells.others s (table_between i sound) (λ v k. ap (λ xs. notices_in xs v) none ∙ sym (nobody_told s v)) u e ∙ same u e))

  -- the same if t is gone
  pub told_gone : (t : ℕ) (locks : Locks) → status_of (state_of (view_of (record i { locks = locks }))) t ≡ None → (first list : Told) → first ≡ []
      → TellsOthers t l (state_at locks) first list → list ≡ told s (state_of (view_of (record i { locks = locks })))
  told_gone t locks gone first list none tells =
      let now = state_of (view_of (record i { locks = locks })) in
      told_apart t (state_at locks) now first list none tells (gone_untold s now t gone) (λ u e. refl)

  -- a transaction ended in any status: all others are told, and it is told nothing itself
  pub told_ended : (t : ℕ) (locks : Locks) → state_at locks ≡ released l t → (first list : Told) → first ≡ []
      → TellsOthers t l (state_at locks) first list → list ≡ told s (state_of (view_of (record i { locks = locks })))
  told_ended t locks is = told_gone t locks (ap (λ x. status_of x t) (state_released i sound t locks is) ∙ released_gone s t)

  -- a wait was cancelled
  module _ (t : ℕ) (n : NodeId) (waits : is_waiting_at s t n ≡ true) (locks : Locks) (is : state_at locks ≡ cancelled l t) where
    abbrev after : Inside
    after = record i { locks = locks }

    pub state_cancelled : state_of (view_of after) ≡ cancelled s t
    state_cancelled = ap {A = State} (λ x. record x { detect = i.detect; victims = i.victims; begins = i.begins }) is

    pub sound_cancelled : IsSound after
    sound_cancelled = record {
      lawful = subst IsLawful (sym state_cancelled) (without_wait-lawful s sound.lawful t Active (λ q m e. cc));
      no_cycle = λ at. subst HasNoCycle (sym state_cancelled) (given_up-no_cycle s sound.lawful t Active (λ q m e. cc) (sound.no_cycle at));
    }

    -- the others are told
    pub told_cancelled : (first list : Told) → first ≡ [] → WakesTold l.txns n (front_at (without_wait l t Active) n) first list
        → list ≡ told_but t s (state_of (view_of after))
    told_cancelled first list none tells =
        told_but_is s (state_of (view_of after)) t list sound.lawful i.locks.sound.few tells.by_slot (λ u. is_by_test (u == t)
        (λ e. ap (notices_in list) (same_number u t e) ∙ cancelled_own l i.locks.orderly t n waits first list tells ∙ ap (λ xs. notices_in xs t) none)
        (λ e. (cancelled_tells l i.locks.orderly t n waits first list tells s (table_between i sound) (λ v k. ap (λ xs. notices_in xs v) none
        ∙ sym (nobody_told s v))).1 u e ∙ ap (λ x. told_to s x u) (sym is)))

  -- a transaction was settled
  module _ (t : ℕ) (locks : Locks) (kept : Deadlock) (is : Settled i.victims l t (state_at locks)) where
    abbrev now : Inside
    now = record i { locks = locks; deadlock = kept }

    pub state_settled : Settled s.victims s t (state_of (view_of now))
    state_settled = settled_also i.victims t i.detect i.victims i.begins l (state_at locks) is

    -- with what is kept of it
    pub kept_settled : SettlesKeeping i.victims l t i.deadlock (state_at locks) kept
        → SettlesKeeping s.victims s t i.deadlock (state_of (view_of now)) kept
    kept_settled keeps = keeping_also i.victims t i.detect i.victims i.begins l (state_at locks) i.deadlock kept keeps

    pub sound_settled : IsSound now
    sound_settled = record {
      lawful = settled-lawful s.victims s (state_of (view_of now)) t sound.lawful state_settled;
      no_cycle = λ at. settled-no_cycle s.victims s (state_of (view_of now)) t sound.lawful state_settled (sound.no_cycle at);
    }

    -- those that are granted are told, and so are victims
    pub told_settled : (first list : Told) → first ≡ [] → TellsAll l (state_at locks) first list → list ≡ told s (state_of (view_of now))
    told_settled first list none tells =
        told_is s (state_of (view_of now)) list sound.lawful i.locks.sound.few tells.by_slot
        (tells.all s (table_between i sound) (λ u. ap (λ xs. notices_in xs u) none ∙ sym (nobody_told s u)))
