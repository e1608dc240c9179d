-- What a run leaves of an active transaction that it does not name, and who waits for it then.
use Rattle.std.specs.Prelude.{◌≡◌, ◌⊎◌, ℕ, Bool, true, false, ◌||◌, ◌==◌, List, ◌∷◌, Some}
use Rattle.std.specs.List.{list_any}
use Rattle.gl_modes.specs.declared.node.NodeId.{NodeId}
use Rattle.gl_model.specs.declared.txn.Status.TheVariants.{Active}
use Rattle.gl_model.specs.declared.txn.TxnId.{TxnId}
use Rattle.gl_model.specs.Lawful.{IsLawful}
use Rattle.gl_model.specs.State.{State, lives, status_of, waits_for}
use Rattle.gl_model.specs.Tellings.{Told}
use Rattle.gl_steps.specs.declared.command.Answer.{Answer}
use Rattle.gl_steps.specs.declared.command.Answer.TheVariants as answer
use Rattle.gl_steps.specs.declared.command.Command.{Command}
use Rattle.gl_steps.specs.declared.command.Command.TheVariants as command
use Rattle.gl_steps.specs.Promises.{names}
use Rattle.gl_steps.specs.Step.{Run}

-- the transaction lives, and neither waits nor is condemned
abbrev pub IsActive : State → TxnId → Type 0
IsActive s t = (lives s t ≡ true) × (status_of s t.slot ≡ Some Active)

-- the command requests a lock for this slot, and is answered with a wait
abbrev pub is_left_waiting : ℕ → Command → Answer → Bool
is_left_waiting u (command.Lock t n m) answer.Waiting = t.slot == u
is_left_waiting u c a = false

-- the same of some command of a run
abbrev pub some_left_waiting : ℕ → List Command → List (Answer × Told) → Bool
some_left_waiting u (c ∷ cs) (r ∷ rs) = is_left_waiting u c r.0 || some_left_waiting u cs rs
some_left_waiting u cs rs = false

-- t is active still, with the same locks; each that waits for it then waited for it before, or its request was left waiting
pub record StaysAside (s s' : State) (t : TxnId) (left : ℕ → Bool) : Type 0 where
  pub active : IsActive s' t
  pub held : (n : NodeId) → s'.held t.slot n ≡ s.held t.slot n
  pub waited : (u : ℕ) → waits_for s' u t.slot ≡ true → (waits_for s u t.slot ≡ true) ⊎ (left u ≡ true)

-- a run leaves an active transaction that it does not name as it is, and nobody waits for it anew but those whose requests are left waiting
abbrev pub LeavesAside : Type 0
LeavesAside =
    (s s' : State) (cs : List Command) (rs : List (Answer × Told)) (t : TxnId) → IsLawful s → Run s cs rs s' → IsActive s t
    → list_any (names t) cs ≡ false → StaysAside s s' t (λ u. some_left_waiting u cs rs)
