-- Which transactions are before a waiter, and the laws of waiting.
use Rattle.std.specs.Prelude.{◌≡◌, ℕ, Bool, true, not, ◌&&◌, ◌||◌, ◌==◌, List, [], ◌∷◌, is_some}
use Rattle.gl_modes.specs.declared.node.NodeId.{NodeId}
use Rattle.gl_header.specs.Header.{holds, is_ahead}
use Rattle.gl_model.specs.declared.txn.TxnId.{TxnId}
use Rattle.gl_model.specs.Lawful.{IsLawful}
use Rattle.gl_model.specs.State.{State, age_of, members}
use Rattle.gl_model.specs.Tellings.{Told}
use Rattle.gl_steps.specs.declared.command.Answer.{Answer}
use Rattle.gl_steps.specs.declared.command.Command.{Command}
use Rattle.gl_steps.specs.Promises.{waits_on}
use Rattle.gl_steps.specs.Step.{Step}

-- u is before t: it is not t's slot, and holds n or is ahead of t in its queue
abbrev pub stands_before : State → TxnId → NodeId → ℕ → Bool
stands_before s t n u = not (u == t.slot) && (holds (members s n) u || is_ahead (s.queue n) t.slot u)

-- a run along which a wait lasts: t waits on n in each of its states, the first and the last included
abbrev pub WaitsThrough : TxnId → NodeId → State → List Command → List (Answer × Told) → State → Type 0
WaitsThrough t n s [] [] s' = (waits_on s t n ≡ true) × (s' ≡ s)
WaitsThrough t n s (c ∷ cs) (r ∷ rs) s' = (waits_on s t n ≡ true) × (mid : State) × Step s c r.0 r.1 mid × WaitsThrough t n mid cs rs s'
WaitsThrough t n s [] (r ∷ rs) s' = ⊥
WaitsThrough t n s (c ∷ cs) [] s' = ⊥

-- one transaction is in the slot in both states
pub record SameTxn (s s' : State) (u : ℕ) : Type 0 where
  pub was : is_some (s.txns u) ≡ true
  pub is : is_some (s'.txns u) ≡ true
  pub age : age_of s' u ≡ age_of s u

-- each that is before t in the later state was before it in the earlier, as the same transaction
abbrev pub StoodBefore : State → State → TxnId → NodeId → Type 0
StoodBefore s s' t n = (u : ℕ) → stands_before s' t n u ≡ true → (stands_before s t n u ≡ true) × SameTxn s s' u

-- first come, first served: no step puts a new transaction before a waiter
abbrev pub FirstComeFirstServed : Type 0
FirstComeFirstServed =
    (s s' : State) (c : Command) (a : Answer) (told : Told) (t : TxnId) (n : NodeId) → IsLawful s → Step s c a told s' → waits_on s t n ≡ true
    → waits_on s' t n ≡ true
    → StoodBefore s s' t n

-- and no run does before one that waits all along
abbrev pub NobodyComesBetween : Type 0
NobodyComesBetween =
    (s s' : State) (cs : List Command) (rs : List (Answer × Told)) (t : TxnId) (n : NodeId) → IsLawful s → WaitsThrough t n s cs rs s' → StoodBefore s s' t n
