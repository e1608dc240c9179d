-- The effect of a lock on a session's share, and its result.
use Rattle.std.proofs.Common.{◌≡◌, ℕ, ◌+◌, ◌≤◌, Bool, true, false, Result, Ok, Err, MatchResult, MatchBool, arith, refl}
use Rattle.gl_modes.specs.declared.refusal.Refusal.{Refusal}
use Rattle.gl_steps.specs.declared.command.Answer.{Answer}
use Rattle.gl_steps.specs.declared.command.Answer.TheVariants as answer
use Rattle.gl_wakes.specs.declared.grant.Grant.{Grant}
use Rattle.gl_wakes.specs.declared.grant.Stop.{Stop}
use Rattle.gl_modes.specs.declared.mode.Mode.{Mode}
use Rattle.gl_modes.specs.declared.node.NodeId.{NodeId}
use Rattle.gl_model.specs.declared.txn.TxnId.{TxnId}
use Rattle.gl_steps.specs.Served.{is_refused}
use Rattle.gl_shared.specs.Sessions.{Gives, IsVerdict}
use Rattle.gl_wakes.specs.Boxes.{is_refusal}

-- an answer that is no refusal
pub is_not_refused : (a : Answer) → ((r : Refusal) → a ≡ answer.Refused r → ⊥) → is_refused a ≡ false
is_not_refused answer.Done h = refl
is_not_refused (answer.Node n) h = refl
is_not_refused (answer.Begun t) h = refl
is_not_refused (answer.Granted m) h = refl
is_not_refused answer.Waiting h = refl
is_not_refused answer.Victim h = refl
is_not_refused (answer.Escalated e) h = refl
is_not_refused (answer.Mode m) h = refl
is_not_refused (answer.Effect e) h = refl
is_not_refused (answer.Refused r) h = absurd (h r refl)

abbrev pub SharesLock : Result Grant Stop → ℕ → ℕ → Type 0
SharesLock result old new = MatchResult result (λ _. new ≡ old + 1) (λ s. MatchBool (is_refusal s) ((old ≤ new) × (new ≤ old + 1)) (new ≡ old + 1))

stops : (b : Bool) (old new : ℕ) → new ≡ old + 1 → MatchBool b ((old ≤ new) × (new ≤ old + 1)) (new ≡ old + 1)
stops true old new is = (omega (arith, is), omega (arith, is))
stops false old new is = is

-- an accepted lock raises the share by one, whatever its outcome
pub shares_lock : (result : Result Grant Stop) (old new : ℕ) → new ≡ old + 1 → SharesLock result old new
shares_lock (Ok g) old new is = is
shares_lock (Err s) old new is = stops (is_refusal s) old new is

-- a lock that is neither granted nor ended at once waits for a verdict
pub gives_verdict : (t : TxnId) (n : NodeId) (k : Mode) (a : Answer) (x : Result Grant Stop) → ((m : Mode) → a ≡ answer.Granted m → ⊥)
    → (a ≡ answer.Victim → ⊥) → ((r : Refusal) → a ≡ answer.Refused r → ⊥) → IsVerdict t n k x → Gives t n k a x
gives_verdict t n k (answer.Granted m) x granted victim refused later = absurd (granted m refl)
gives_verdict t n k answer.Victim x granted victim refused later = absurd (victim refl)
gives_verdict t n k (answer.Refused r) x granted victim refused later = absurd (refused r refl)
gives_verdict t n k answer.Done x granted victim refused later = later
gives_verdict t n k (answer.Node m) x granted victim refused later = later
gives_verdict t n k (answer.Begun u) x granted victim refused later = later
gives_verdict t n k answer.Waiting x granted victim refused later = later
gives_verdict t n k (answer.Escalated e) x granted victim refused later = later
gives_verdict t n k (answer.Mode m) x granted victim refused later = later
gives_verdict t n k (answer.Effect e) x granted victim refused later = later
