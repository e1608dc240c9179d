-- The order in which victims are chosen: a transaction that keeps its turn is not passed, and the first is never a victim.
use Rattle.std.specs.Prelude.{◌≡◌, ◌≢◌, ℕ, ◌≤◌, Bool, true, false, ◌&&◌, nat_lt, List, [], ◌∷◌, Some, is_some}
use Rattle.std.specs.List.{count_by}
use Rattle.gl_waits.specs.declared.victims.Victims.{Victims}
use Rattle.gl_waits.specs.declared.victims.Victims.TheVariants.{Youngest}
use Rattle.gl_waits.specs.Victims.{IsCandidate}
use Rattle.gl_waits.specs.Waits.{IsOnCycleOf, is_earlier}
use Rattle.gl_model.specs.declared.txn.Status.TheVariants.{Condemned}
use Rattle.gl_model.specs.Lawful.{IsLawful}
use Rattle.gl_model.specs.State.{State, IsVictim, age_of, since_of, slots, status_of, waits_for}
use Rattle.gl_model.specs.Tellings.{Told}
use Rattle.gl_steps.specs.declared.command.Answer.{Answer}
use Rattle.gl_steps.specs.declared.command.Command.{Command}
use Rattle.gl_steps.specs.declared.command.Command.TheVariants as command
use Rattle.gl_steps.specs.Step.{Step}
use Rattle.gl_fairness.specs.Waiting.{SameTxn}

-- u comes before v: its `since` is earlier, or the same and u is older
abbrev pub comes_before : State → ℕ → ℕ → Bool
comes_before s u v = is_earlier (since_of s) (age_of s) u v

-- each other candidate comes before the victim
abbrev pub VictimAfterOthers : Type 0
VictimAfterOthers =
    (c : Victims) (s : State) (t v u : ℕ) → IsLawful s → IsVictim c s t v → IsCandidate c (waits_for s) t u → u ≢ v → comes_before s u v ≡ true

-- u is on a cycle with t, lives, and comes before v
pub record StaysBefore (s : State) (t u v : ℕ) : Type 0 where
  pub on_cycle : IsOnCycleOf (waits_for s) t u
  pub lives : is_some (s.txns u) ≡ true
  pub before : comes_before s u v ≡ true

-- by `Youngest`, a victim leaves one on the cycle that comes before it
abbrev pub VictimAfterSomebody : Type 0
VictimAfterSomebody = (s : State) (t v : ℕ) → IsLawful s → IsVictim Youngest s t v → (u : ℕ) × StaysBefore s t u v

-- the transaction in slot v is condemned between the states
pub record BecomesVictim (s s' : State) (v : ℕ) : Type 0 where
  pub not_before : status_of s v ≢ Some Condemned
  pub after : status_of s' v ≡ Some Condemned

-- by `Youngest`, a living transaction comes before each that a step condemns
abbrev pub VictimAfterALiving : Type 0
VictimAfterALiving =
    (s s' : State) (c : Command) (a : Answer) (told : Told) (v : ℕ) → IsLawful s → s.victims ≡ Youngest → Step s c a told s' → BecomesVictim s s' v
    → (u : ℕ) × (is_some (s.txns u) ≡ true) × (comes_before s u v ≡ true)

-- how many living transactions come before v
abbrev pub count_before : State → ℕ → ℕ
count_before s v = count_by (λ u. is_some (s.txns u) && comes_before s u v) (slots s)

-- a transaction begins again, joins or renews for work from before this number
abbrev pub begins_ahead : ℕ → Command → Bool
begins_ahead since (command.BeginAgain n) = nat_lt n since
begins_ahead since (command.Join t n) = nat_lt n since
begins_ahead since (command.Renew t n) = nat_lt n since
begins_ahead since c = false

-- over any other step no more living transactions come before one that lives on
abbrev pub NoMoreComeBefore : Type 0
NoMoreComeBefore =
    (s s' : State) (c : Command) (a : Answer) (told : Told) (v : ℕ) → IsLawful s → begins_ahead (since_of s v) c ≡ false → Step s c a told s'
    → SameTxn s s' v
    → count_before s' v ≤ count_before s v

-- no living transaction comes before v
abbrev pub ComesFirst : State → ℕ → Type 0
ComesFirst s v = (u : ℕ) → is_some (s.txns u) ≡ true → comes_before s u v ≡ false

-- a run along which the transaction in slot v lives, and none begins for earlier work
abbrev pub LivesThrough : ℕ → State → List Command → List (Answer × Told) → State → Type 0
LivesThrough v s [] [] s' = (is_some (s.txns v) ≡ true) × (s' ≡ s)
LivesThrough v s (c ∷ cs) (r ∷ rs) s' =
    (mid : State) × Step s c r.0 r.1 mid × SameTxn s mid v × (begins_ahead (since_of s v) c ≡ false) × LivesThrough v mid cs rs s'
LivesThrough v s [] (r ∷ rs) s' = ⊥
LivesThrough v s (c ∷ cs) [] s' = ⊥

-- along such a run one that comes first stays first, and is never a victim
abbrev pub FirstIsNeverVictim : Type 0
FirstIsNeverVictim =
    (s s' : State) (cs : List Command) (rs : List (Answer × Told)) (v : ℕ) → IsLawful s → s.victims ≡ Youngest → ComesFirst s v
    → LivesThrough v s cs rs s'
    → ComesFirst s' v × (BecomesVictim s s' v → ⊥)
