-- A table in which nobody waits, and its snapshot: for when watchers need not be told.
use Rattle.gl_window.proofs.Words.{◌||◌, ◌∙◌, ◌≡◌, Active, Answer, ap, board_of, Bool, Command, Condemned, false, is_wait, IsLawfulManager, leaves_waiting}
use Rattle.gl_window.proofs.Words.{ManagerView, NobodyWaits, None, Option, refl, Some, State, state_of, Status, status_of, Step, sym, Told, true, true≢false}
use Rattle.gl_window.proofs.Words.{Waiting, ℕ}
use Rattle.gl_model.proofs.law.Settle.{waits_for_one}
use Rattle.gl_steps.proofs.WaitsBegin.{nobody_waits_on}
use Rattle.gl_waits.specs.Boards.{ShowsNobody}
use Rattle.gl_window.specs.Tellings.{is_due}
use Rattle.gl_window.specs.declared.telling.Telling.{Telling}
use Rattle.gl_window.specs.declared.telling.Telling.TheVariants.{Always, WhileWaiting}
use Rattle.gl_window.proofs.RealBoards.{edges_are}

-- each waiter waits for somebody, so a snapshot without waits is one of a table in which nobody waits
pub nobody_shown : (m : ManagerView) → IsLawfulManager m → ShowsNobody (board_of (state_of m)) → NobodyWaits (state_of m)
nobody_shown m law none t = by (status_of s t) refl
  where
    s : State
    s = state_of m

    by : (o : Option Status) → status_of s t ≡ o → is_wait o ≡ false
    by None e = refl
    by (Some Active) e = refl
    by (Some Condemned) e = refl
    by (Some (Waiting n w)) e =
        let one = waits_for_one s law.lawful t n w e in
        absurd (true≢false (sym one.1 ∙ ap (λ (edge : ℕ → ℕ → Bool). edge t one.0) (sym (edges_are s law.lawful law.few)) ∙ none t one.0))

-- if watchers are not told
pub not_due : (t : Telling) (waited : Bool) → is_due t waited ≡ false → (t ≡ WhileWaiting) × (waited ≡ false)
not_due Always waited e = absurd (cc e)
not_due WhileWaiting waited e = (refl, e)

-- neither of two
pub neither : (a b : Bool) → (a || b) ≡ false → (a ≡ false) × (b ≡ false)
neither false b e = (refl, e)
neither true b e = absurd (true≢false e)

-- if nobody waits, a step keeps that, unless it answers that a lock waits
pub nobody_on : (s s' : State) (waited waits : Bool) (c : Command) (a : Answer) (told : Told) → waits ≡ leaves_waiting a → (waited ≡ false → NobodyWaits s)
    → Step s c a told s' → (waited || waits) ≡ false → NobodyWaits s'
nobody_on s s' waited waits c a told is_so quiet step e =
    let both = neither waited waits e in
    nobody_waits_on s s' c a told (quiet both.0) (λ is. absurd (true≢false (sym (is_so ∙ ap leaves_waiting is) ∙ both.1))) step
