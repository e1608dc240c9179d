-- Transactions that rest: active ones that have done nothing, and hold intentions for what their session begins next.
use Rattle.std.specs.Prelude.{◌≡◌, ◌||◌, ◌&&◌, ◌==◌, ◌≤◌, ◌<◌, ℕ, Bool, true, false, not, min, List, [], ◌∷◌, Option, Some, None, Result, Ok, Err}
use Rattle.std.specs.Prelude.{if◌then◌else◌, slice_get}
use Rattle.std.specs.List.{list_any}
use Rattle.gl_modes.specs.declared.mode.Mode.TheVariants.{IS, IX}
use Rattle.gl_modes.specs.declared.node.NodeId.{NodeId}
use Rattle.gl_modes.specs.declared.refusal.Refusal.{Refusal}
use Rattle.gl_modes.specs.Modes.{are_compatible, is_at_least, same_mode}
use Rattle.gl_slots.specs.Slots.{HasNoSlot, has_slot}
use Rattle.gl_slots.specs.declared.slots.Slots.{Slots}
use Rattle.gl_model.specs.declared.answers.LockRow.{LockRow}
use Rattle.gl_model.specs.declared.txn.Status.TheVariants.{Active}
use Rattle.gl_model.specs.declared.txn.TxnId.{TxnId}
use Rattle.gl_model.specs.Lawful.{IsLawful}
use Rattle.gl_model.specs.State.{State, age_of, lives, status_of, waits_for}
use Rattle.gl_model.specs.Tellings.{Told}
use Rattle.gl_steps.specs.Promises.{names}
use Rattle.gl_steps.specs.declared.command.Answer.{Answer}
use Rattle.gl_steps.specs.declared.command.Command.{Command}
use Rattle.gl_steps.specs.declared.command.Command.TheVariants as command
use Rattle.gl_table.specs.Table.{rows_of}
use Rattle.gl_catalog.specs.Manager.{ManagerView, state_of}
use Rattle.gl_waiting.specs.Asking.{InTurn, IsNothing, Serves}
use Rattle.gl_waiting.specs.Going.{IsRunOf}
use Rattle.gl_waiting.specs.Waiting.{WaitingView}
use Rattle.gl_waiting.specs.declared.resting.Ended.{Ended}
use Rattle.gl_waiting.specs.declared.resting.Number.{Number}
use Rattle.gl_waiting.specs.declared.resting.Number.TheVariants as number
use Rattle.gl_waiting.specs.declared.resting.Whom.{Whom}
use Rattle.gl_waiting.specs.declared.resting.Whom.TheVariants as whom
use Rattle.gl_waiting.specs.declared.set_off.SetOff.{SetOff}

-- there is a lock, and it is an intention
abbrev pub is_intention : Option LockRow → Bool
is_intention (Some x) = same_mode x.mode IS || same_mode x.mode IX
is_intention None = false

-- the lock at this place of a transaction's list
abbrev pub lock_in : ManagerView → TxnId → ℕ → Option LockRow
lock_in m t place = if lives (state_of m) t then slice_get (rows_of m.table t.slot) place else None

-- this many of a transaction's first locks are intentions, at most `most`: if it is known of the first `known` of them, all are, and the next one is none
pub record FirstIntentions (m : ManagerView) (t : TxnId) (known most count : ℕ) : Type 0 where
  pub low : min known most ≤ count
  pub high : count ≤ most
  pub all : (k : ℕ) → known ≤ k → k < count → is_intention (lock_in m t k) ≡ true
  pub next : count < most → is_intention (lock_in m t count) ≡ false

-- the slots of those who rest, and of those whose waits may be for one of them
pub record RestingView : Type 0 where
  pub resting : Slots
  pub crossed : Slots

-- those who rest are active, and hold intentions alone; whoever waits for one of them is among those whose waits may be
pub record RestsWell (s : State) (r : RestingView) : Type 0 where
  pub active : (u : ℕ) → has_slot r.resting u ≡ true → status_of s u ≡ Some Active
  pub intends : (u : ℕ) (n : NodeId) → has_slot r.resting u ≡ true → is_at_least IX (s.held u n) ≡ true
  pub known : (t u : ℕ) → has_slot r.resting u ≡ true → waits_for s t u ≡ true → has_slot r.crossed t ≡ true

-- nobody waits for one who rests
abbrev pub NobodyWaitsForThem : State → Slots → Type 0
NobodyWaitsForThem s r = (t u : ℕ) → has_slot r u ≡ true → waits_for s t u ≡ false

-- the slot is this one
abbrev pub is_slot : Option ℕ → ℕ → Bool
is_slot (Some slot) u = u == slot
is_slot None u = false

-- the command names no transaction but that of this slot
abbrev pub ActsIn : Option ℕ → Command → Type 0
ActsIn slot c = (t : TxnId) → names t c ≡ true → is_slot slot t.slot ≡ true

-- the slot of the transaction that a command names
abbrev pub acting_in : Command → Option ℕ
acting_in (command.Lock t n m) = Some t.slot
acting_in (command.Try t n m) = Some t.slot
acting_in (command.Unlock t n) = Some t.slot
acting_in (command.Escalate t n) = Some t.slot
acting_in (command.Cancel t) = Some t.slot
acting_in (command.Commit t) = Some t.slot
acting_in (command.Renew t since) = Some t.slot
acting_in (command.Abort t) = Some t.slot
acting_in (command.Insert t f keys) = Some t.slot
acting_in (command.Delete t r) = Some t.slot
acting_in (command.Rekey t r i key) = Some t.slot
acting_in (command.Move t n ps) = Some t.slot
acting_in (command.Drop t n) = Some t.slot
acting_in (command.IndexBy t ps f bs rs ks) = Some t.slot
acting_in (command.Split t i at) = Some t.slot
acting_in (command.Merge t i) = Some t.slot
acting_in c = None

-- all rest on but the transaction of this slot, which has done something
abbrev pub RestOn : Option ℕ → Slots → Slots → Type 0
RestOn slot r r' = (u : ℕ) → has_slot r' u ≡ (has_slot r u && not (is_slot slot u))

-- after a call that names the transaction of this slot alone: that one rests no more, if the call was counted
pub record Rouses (slot : Option ℕ) (v : WaitingView) (r : Slots) (v' : WaitingView) (r' : Slots) : Type 0 where
  pub counted : (v'.manager.accepted ≡ v.manager.accepted → ⊥) → RestOn slot r r'
  pub uncounted : v'.manager.accepted ≡ v.manager.accepted → r' ≡ r

-- the law of those who rest is kept by each run to this state whose commands name the transaction of this slot alone
abbrev pub KeepsRest : Option ℕ → RestingView → State → RestingView → Type 0
KeepsRest slot r s' r' = (s : State) (c : Command) → IsLawful s → IsRunOf c s s' → ActsIn slot c → RestsWell s r → RestsWell s' r'

-- one who rests is chosen to be ended: somebody waits for it; it holds a node in a mode that does not go with this one; or no other has rested longer
abbrev pub IsChosen : Whom → State → Slots → ℕ → Type 0
IsChosen whom.InTheWay s r u = (t : ℕ) × (waits_for s t u ≡ true)
IsChosen (whom.Holding n m) s r u = are_compatible m (s.held u n) ≡ false
IsChosen whom.Longest s r u = (v : ℕ) → has_slot r v ≡ true → age_of s u ≤ age_of s v

-- none is to be chosen
abbrev pub NoneIsChosen : Whom → State → Slots → Type 0
NoneIsChosen whom.InTheWay s r = NobodyWaitsForThem s r
NoneIsChosen (whom.Holding n m) s r = (u : ℕ) → has_slot r u ≡ true → are_compatible m (s.held u n) ≡ true
NoneIsChosen whom.Longest s r = HasNoSlot r

-- a command was counted
abbrev pub is_counted : WaitingView → WaitingView → Bool
is_counted v v' = not (v'.manager.accepted == v.manager.accepted)

-- a living transaction commits
pub record Commits (v : WaitingView) (t : TxnId) (a : Option Answer) (told : Told) (off : SetOff) (v' : WaitingView) : Type 0 where
  pub alive : lives (state_of v.manager) t ≡ true
  pub serves : InTurn v (λ ended mid. Serves v (command.Commit t) a told ended mid) off v'

-- the same, which is counted, tells nobody and sets nothing off
pub record CommitsQuietly (v : WaitingView) (t : TxnId) (v' : WaitingView) : Type 0 where
  pub answer : Option Answer
  pub off : SetOff
  pub commits : Commits v t answer [] off v'
  pub nothing : IsNothing off
  pub counted : is_counted v v' ≡ true

-- these commit so, one after the other
abbrev pub EachCommitsQuietly : WaitingView → List TxnId → WaitingView → Type 0
EachCommitsQuietly v [] v' = v' ≡ v
EachCommitsQuietly v (t ∷ ts) v' = (mid : WaitingView) × CommitsQuietly v t mid × EachCommitsQuietly mid ts v'

-- the last commit was counted, told nobody and set nothing off
pub record IsQuiet (e : Ended) (told : Told) (off : SetOff) : Type 0 where
  pub counted : has_slot e.slots e.last.slot ≡ true
  pub untold : told ≡ []
  pub nothing : IsNothing off

-- some commit quietly, none of them if one alone is to be ended, and then the last one, which may tell others; the set has the slots of those whose commit
-- was counted
pub record EndsEach (n : Number) (v : WaitingView) (e : Ended) (told : Told) (off : SetOff) (v' : WaitingView) : Type 0 where
  pub before : List TxnId
  pub mid : WaitingView
  pub quietly : EachCommitsQuietly v before mid
  pub alone : n ≡ number.One → before ≡ []
  pub last : Commits mid e.last e.answer told off v'
  pub slots : (u : ℕ) → has_slot e.slots u ≡ (list_any (λ (t : TxnId). u == t.slot) before || (is_counted mid v' && (u == e.last.slot)))
  pub counted : has_slot e.slots e.last.slot ≡ is_counted mid v'

-- those who were chosen commit, if there are any; else nothing changes
abbrev pub EndsSome : Number → WaitingView → Option Ended → Told → SetOff → WaitingView → Type 0
EndsSome n v (Some e) told off v' = EndsEach n v e told off v'
EndsSome n v None told off v' = (told ≡ []) × IsNothing off × (v' ≡ v)

-- those who were ended had rested and were to be ended, as it was before the first of them was, and rest no more
pub record ChoosesEach (w : Whom) (v : WaitingView) (e : Ended) (v' : WaitingView) (r r' : Slots) : Type 0 where
  pub chosen : (u : ℕ) → has_slot e.slots u ≡ true → (has_slot r u ≡ true) × IsChosen w (state_of v.manager) r u
  pub last : (has_slot r e.last.slot ≡ true) × IsChosen w (state_of v.manager) r e.last.slot
  pub rests : (u : ℕ) → has_slot r' u ≡ (has_slot r u && not (has_slot e.slots u))
  pub uncounted : v'.manager.accepted ≡ v.manager.accepted → r' ≡ r

-- some are chosen, if any is to be
abbrev pub ChoosesSome : Whom → WaitingView → Option Ended → WaitingView → Slots → Slots → Type 0
ChoosesSome w v (Some e) v' r r' = ChoosesEach w v e v' r r'
ChoosesSome w v None v' r r' = NoneIsChosen w (state_of v.manager) r × (r' ≡ r)

-- a transaction began
abbrev pub has_begun : Result (Option TxnId) Refusal → Bool
has_begun (Ok (Some t)) = true
has_begun (Ok None) = false
has_begun (Err e) = false

-- after a commit that keeps locks, if that was counted, the next transaction of the slot rests, if there is one
pub record LetsRest (slot : ℕ) (result : Result (Option TxnId) Refusal) (v v' : WaitingView) (r r' : Slots) : Type 0 where
  pub counted : (v'.manager.accepted ≡ v.manager.accepted → ⊥) → (u : ℕ)
      → has_slot r' u ≡ (has_slot r u && not (u == slot) || (has_begun result && (u == slot)))
  pub uncounted : v'.manager.accepted ≡ v.manager.accepted → r' ≡ r

-- the slot that stops resting, if the transaction rests
abbrev pub slot_if : Bool → ℕ → Option ℕ
slot_if true slot = Some slot
slot_if false slot = None
