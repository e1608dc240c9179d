-- Calls about those who rest: who begins to, who is ended, and who works again.
use Rattle.std.specs.Prelude.{◌≡◌, ◌&&◌, ℕ, zero, suc, Bool, false, [], Option, Some, None, Result, Ok, Err}
use Rattle.gl_modes.specs.declared.refusal.Refusal.{Refusal}
use Rattle.gl_slots.specs.Slots.{has_bit, has_none, has_slot}
use Rattle.gl_model.specs.State.{lives}
use Rattle.gl_model.specs.declared.txn.TxnId.{TxnId}
use Rattle.gl_catalog.specs.Manager.{state_of}
use Rattle.gl_waiting.specs.Asking.{InTurn, KeepsLocks}
use Rattle.gl_waiting.specs.Resting.{ChoosesSome, EndsSome, FirstIntentions, LetsRest, RestOn, slot_if}
use Rattle.gl_waiting.specs.declared.resting.Ended.{Ended}
use Rattle.gl_waiting.specs.declared.resting.Number.{Number}
use Rattle.gl_waiting.specs.declared.resting.Number.TheVariants as number
use Rattle.gl_waiting.specs.declared.resting.Whom.{Whom}
use Rattle.gl_c.specs.declared.answers.found.Found.{Found}
use Rattle.gl_c.specs.declared.answers.notices.Notices.{Notices}
use Rattle.gl_c.specs.declared.answers.reply.Reply.{Reply}
use Rattle.gl_c.specs.answers.Finding.{none_found}
use Rattle.gl_c.specs.answers.Notices.{Tells}
use Rattle.gl_c.specs.answers.Replies.{count_reply, served_reply, status_reply}
use Rattle.gl_c.specs.Boards.{set_of}
use Rattle.gl_c.specs.Names.{txn_of}
use Rattle.gl_c.specs.Numbers.{done, no_manager, no_place}
use Rattle.gl_c.specs.locks.Savepoints.{keeping_reply}
use Rattle.gl_c.specs.locks.Turns.{found_reply}
use Rattle.gl_c.specs.managers.Carries.{CallOf, Declines, Replies}
use Rattle.gl_c.specs.managers.Guarded.{GuardedView}

-- the reply for a commit whose next transaction rests, with the number of locks that it keeps
abbrev pub resting_reply : ℕ → Result (Option TxnId) Refusal → Reply
resting_reply keep (Ok (Some t)) = record (keeping_reply (Ok (Some t))) { count = keep }
resting_reply keep (Ok None) = keeping_reply (Ok None)
resting_reply keep (Err r) = keeping_reply (Err r)

-- the call by which a transaction commits, and another begins in its slot that keeps its first locks, and rests
abbrev pub resting_call : TxnId → ℕ → ℕ → CallOf (Result (Option TxnId) Refusal)
resting_call t keep since = record {
  does = λ v result told off v'. InTurn v (λ ended mid. KeepsLocks v t keep since result told ended mid) off v';
  spares = λ result told known. has_none known;
  says = resting_reply keep;
  rests = λ v result v' r r'. LetsRest t.slot result v v' r r';
}

-- the same of so many locks; with none nothing changes
abbrev pub RestsWith : ℕ → GuardedView → TxnId → ℕ → Reply → Notices → GuardedView → Type 0
RestsWith zero g t since r notices g' = (r ≡ status_reply no_place) × Tells notices [] × (g' ≡ g)
RestsWith (suc k) g t since r notices g' = Replies g (resting_call t (suc k) since) r notices g'

-- the same of the first locks that are intentions
abbrev pub RestsThere : GuardedView → TxnId → ℕ → ℕ → ℕ → Reply → Notices → GuardedView → Type 0
RestsThere g t known most since r notices g' =
    (keep : ℕ) × FirstIntentions g.manager t known most keep × RestsWith keep g t since r notices g'

-- the same, if there is a manager
abbrev pub RestsIn : Option GuardedView → TxnId → ℕ → ℕ → ℕ → Reply → Notices → Option GuardedView → Type 0
RestsIn None t known most since r notices s' = Declines None no_manager r s' × Tells notices []
RestsIn (Some g) t known most since r notices s' = (g' : GuardedView) × (s' ≡ Some g') × RestsThere g t known most since r notices g'

-- a question for how many of the first locks are intentions
abbrev pub CountsIntentions : GuardedView → TxnId → ℕ → ℕ → Reply → Type 0
CountsIntentions g t known most r = (count : ℕ) × FirstIntentions g.manager t known most count × (r ≡ count_reply count)

-- the same, if there is a manager: nothing changes
abbrev pub CountsIntentionsIn : Option GuardedView → TxnId → ℕ → ℕ → Reply → Option GuardedView → Type 0
CountsIntentionsIn None t known most r s' = Declines None no_manager r s'
CountsIntentionsIn (Some g) t known most r s' = CountsIntentions g t known most r × (s' ≡ Some g)

-- the reply for those who rested and were to be ended: the name of the last, and what its commit was answered
abbrev pub ended_reply : Option Ended → Reply
ended_reply (Some e) = record (served_reply e.answer) { txn = txn_of e.last }
ended_reply None = status_reply no_place

-- the number of those to be ended: one alone, or, by 0, all
abbrev pub number_of_ends : ℕ → Number
number_of_ends zero = number.All
number_of_ends (suc n) = number.One

-- the call that ends those who rest
abbrev pub end_call : Whom → Number → CallOf (Option Ended)
end_call w n = record {
  does = λ v o told off v'. EndsSome n v o told off v';
  spares = λ o told known. false;
  says = ended_reply;
  rests = ChoosesSome w;
}

-- a transaction works again, if it rested
pub record WakesThere (g : GuardedView) (t : TxnId) (r : Reply) (g' : GuardedView) : Type 0 where
  pub found : Bool
  pub woken : found ≡ (has_slot g.resting t.slot && lives (state_of g.manager) t)
  pub rest : g' ≡ record g { resting = g'.resting }
  pub rests : RestOn (slot_if found t.slot) g.resting g'.resting
  pub replied : r ≡ found_reply found

-- the same, if there is a manager
abbrev pub WakesIn : Option GuardedView → TxnId → Reply → Option GuardedView → Type 0
WakesIn None t r s' = Declines None no_manager r s'
WakesIn (Some g) t r s' = (g' : GuardedView) × (s' ≡ Some g') × WakesThere g t r g'

-- a call that asks who rests: nothing changes
abbrev pub FindsResting : Option GuardedView → Found → Option GuardedView → Type 0
FindsResting None f s' = (f ≡ none_found no_manager) × (s' ≡ None)
FindsResting (Some g) f s' = (f.status ≡ done) × ((u : ℕ) → has_bit (set_of f.slots) u ≡ has_slot g.resting u) × (s' ≡ Some g)
